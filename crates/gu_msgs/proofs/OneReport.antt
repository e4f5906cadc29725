-- The fields of a report are at most one report, and no other message.
use Rattle.gu_msgs.proofs.Words.{◌≡◌, List, TagValue, Says, Inbound}
use Rattle.gu_msgs.specs.declared.inbound.Inbound.TheVariants as inbound
use Rattle.gu_msgs.specs.declared.inbound.TradeCaptureReport.{TradeCaptureReport}
use Rattle.gu_msgs.proofs.OneMessage.{one_message}

-- any other message in them is this report
pub one_report : (fields : List TagValue) (message : Inbound) (report : TradeCaptureReport)
    → Says fields message → Says fields (inbound.TradeCaptureReport report) → message ≡ inbound.TradeCaptureReport report
one_report fields message report p q = one_message fields message (inbound.TradeCaptureReport report) p q
