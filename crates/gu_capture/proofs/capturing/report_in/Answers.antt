use Rattle.gu_msgs.specs.declared.inbound.Inbound.TheVariants as inbound
use Rattle.gu_msgs.proofs.NoFault.{no_fault}
use Rattle.gu_capture.proofs.Capturings.{found_report}
use Rattle.gu_capture.proofs.capturing.report_in.Goals as goal

pub returns-in-Ok : goal.returns-in-Ok
returns-in-Ok c fields read = found_report fields c.in-Ok.message c.into_report.result (rw c.in-Ok.is at read) c.into_report.ensures

pub returns-in-Err : goal.returns-in-Err
returns-in-Err c fields read report says = no_fault fields (inbound.TradeCaptureReport report) c.in-Err.field-0 says (rw c.in-Err.is at read)
