-- Why a firm's request isn't in the book, as messages say it (TradeReportRejectReason, tag 751, and Text, tag 58).
use Rattle.std.specs.Prelude.{ℕ, List, codes}
use Rattle.gu_terms.specs.Refusals.{text_of}
use Rattle.gu_terms.specs.declared.refusal.Refusal.TheVariants.{UnknownInstrument, UnknownAccount, NotYours}
use Rattle.gu_msgs.specs.declared.rejection.Rejection.{Rejection}
use Rattle.gu_msgs.specs.declared.rejection.Rejection.TheVariants.{Refused, Memory, Full}
use Rattle.gu_msgs.specs.declared.rejection.TradeReportRejectReason.{TradeReportRejectReason}
use Rattle.gu_msgs.specs.declared.rejection.TradeReportRejectReason.TheVariants as reason

-- the kind of a rejection: the instrument is unknown, the account is unknown or another firm's, or something else
abbrev pub reason_of : Rejection → TradeReportRejectReason
reason_of (Refused UnknownInstrument) = reason.UnknownInstrument
reason_of (Refused UnknownAccount) = reason.InvalidPartyInformation
reason_of (Refused NotYours) = reason.InvalidPartyInformation
reason_of _ = reason.Other

-- the number of a kind
abbrev pub reason_number : TradeReportRejectReason → ℕ
reason_number reason.InvalidPartyInformation = 1
reason_number reason.UnknownInstrument = 2
reason_number reason.Other = 99

-- the text of a rejection: the refusal's, or the reason that nothing was entered
abbrev pub rejection_text : Rejection → List ℕ
rejection_text (Refused refusal) = text_of refusal
rejection_text Memory = codes "Memory"
rejection_text Full = codes "Full"
