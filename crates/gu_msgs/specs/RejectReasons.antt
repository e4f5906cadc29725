-- SessionRejectReason, tag 373 (FIXT 1.1, Reject).
use Rattle.std.specs.Prelude.{ℕ}
use Rattle.gu_fix.specs.declared.error.SessionRejectReason.{SessionRejectReason as FieldReason}
use Rattle.gu_fix.specs.declared.error.SessionRejectReason.TheVariants as field
use Rattle.gu_msgs.specs.declared.reject_reason.SessionRejectReason.{SessionRejectReason}
use Rattle.gu_msgs.specs.declared.reject_reason.SessionRejectReason.TheVariants.{InvalidTagNumber, RequiredTagMissing, TagSpecifiedWithoutAValue, ValueIsIncorrect, IncorrectDataFormat, CompIdProblem, InvalidMsgType, TagAppearsMoreThanOnce, IncorrectNumInGroupCount}

-- the number of a reason
abbrev pub number_of : SessionRejectReason → ℕ
number_of InvalidTagNumber = 0
number_of RequiredTagMissing = 1
number_of TagSpecifiedWithoutAValue = 4
number_of ValueIsIncorrect = 5
number_of IncorrectDataFormat = 6
number_of CompIdProblem = 9
number_of InvalidMsgType = 11
number_of TagAppearsMoreThanOnce = 13
number_of IncorrectNumInGroupCount = 16

-- the reason for a malformed field, among these
abbrev pub reason_of_field : FieldReason → SessionRejectReason
reason_of_field field.InvalidTagNumber = InvalidTagNumber
reason_of_field field.TagSpecifiedWithoutAValue = TagSpecifiedWithoutAValue
