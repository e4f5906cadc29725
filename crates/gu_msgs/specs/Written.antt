-- The fields of messages that are written, in order.
use Rattle.std.specs.Prelude.{◌≡◌, ◌++◌, ℕ, List, [], ◌∷◌, Option, None, Some, codes}
use Rattle.std.specs.Option.{option_map_or}
use Rattle.gu_fix.specs.TagValue.{TagValue, tag_value}
use Rattle.gu_fix.specs.declared.tag.TheConstants.{MSG_TYPE}
use Rattle.gu_msgs.specs.CodedValues.{logout_text}
use Rattle.gu_msgs.specs.MomentTexts.{WritesMoment}
use Rattle.gu_msgs.specs.declared.outbound.Application.{Application}
use Rattle.gu_msgs.specs.declared.outbound.Application.TheVariants as application
use Rattle.gu_msgs.specs.declared.outbound.Body.{Body}
use Rattle.gu_msgs.specs.declared.outbound.Body.TheVariants as body
use Rattle.gu_msgs.specs.declared.outbound.Outbound.{Outbound}
use Rattle.gu_msgs.specs.declared.outbound.OutboundRef.{OutboundRef}
use Rattle.gu_msgs.specs.declared.tags.TheConstants.{BEGIN_SEQ_NO, END_SEQ_NO, GAP_FILL_FLAG, MSG_SEQ_NUM, NEW_SEQ_NO, ORIG_SENDING_TIME, POSS_DUP_FLAG, SENDER_COMP_ID, SENDING_TIME, TARGET_COMP_ID, TEST_REQ_ID, TEXT}
use Rattle.gu_msgs.specs.WrittenBodies.{number_field, optional_field, logon_fields, reject_fields, business_fields, report_ack_fields, instruction_ack_fields, report_fields, allocation_fields, request_ack_fields, position_fields}

-- the message, with its body borrowed
abbrev pub outbound_of : OutboundRef → Outbound
outbound_of m = record {
  firm = m.firm;
  msg_seq_num = m.msg_seq_num;
  sending_time = m.sending_time;
  orig_sending_time = m.orig_sending_time;
  body = m.body.now;
}

-- the code of an application message's type
abbrev pub application_code : Application → List ℕ
application_code (application.BusinessMessageReject m) = codes "j"
application_code (application.TradeCaptureReportAck m) = codes "AR"
application_code (application.AllocationInstructionAck m) = codes "P"
application_code (application.TradeCaptureReport m) = codes "AE"
application_code (application.AllocationReport m) = codes "AS"
application_code (application.RequestForPositionsAck m) = codes "AO"
application_code (application.PositionReport m) = codes "AP"

-- the code of a message's type
abbrev pub body_code : Body → List ℕ
body_code (body.Logon interval resets) = codes "A"
body_code (body.Heartbeat id) = codes "0"
body_code body.TestRequest = codes "1"
body_code (body.ResendRequest from) = codes "2"
body_code (body.Reject m) = codes "3"
body_code (body.SequenceReset to) = codes "4"
body_code (body.Logout reason) = codes "5"
body_code (body.Application m) = application_code m

-- the fields of an application message after its header
abbrev pub application_fields : Application → List TagValue
application_fields (application.BusinessMessageReject m) = business_fields m
application_fields (application.TradeCaptureReportAck m) = report_ack_fields m
application_fields (application.AllocationInstructionAck m) = instruction_ack_fields m
application_fields (application.TradeCaptureReport m) = report_fields m
application_fields (application.AllocationReport m) = allocation_fields m
application_fields (application.RequestForPositionsAck m) = request_ack_fields m
application_fields (application.PositionReport m) = position_fields m

-- the fields of a message after its header
abbrev pub body_fields : Body → List TagValue
body_fields (body.Logon interval resets) = logon_fields interval resets
body_fields (body.Heartbeat id) = optional_field TEST_REQ_ID id
body_fields body.TestRequest = tag_value TEST_REQ_ID (codes "TEST") ∷ []
body_fields (body.ResendRequest from) = number_field BEGIN_SEQ_NO from ∷ number_field END_SEQ_NO 0 ∷ []
body_fields (body.Reject m) = reject_fields m
body_fields (body.SequenceReset to) = tag_value GAP_FILL_FLAG (codes "Y") ∷ number_field NEW_SEQ_NO to ∷ []
body_fields (body.Logout reason) = optional_field TEXT (option_map_or (λ r. Some (logout_text r)) reason None)
body_fields (body.Application m) = application_fields m

-- the marks of a message that is sent again: PossDupFlag, and the time when it was first sent
abbrev pub MarksResend : Option ℕ → List TagValue → Type 0
MarksResend None marks = marks ≡ []
MarksResend (Some first) marks =
    (text : List ℕ) × WritesMoment first text
    × (marks ≡ tag_value POSS_DUP_FLAG (codes "Y") ∷ tag_value ORIG_SENDING_TIME text ∷ [])

-- the header of a message sent at a moment with this text
abbrev pub header_fields : Outbound → List ℕ → List TagValue
header_fields m time =
    tag_value MSG_TYPE (body_code m.body) ∷ tag_value SENDER_COMP_ID (codes "GIVEUP") ∷ tag_value TARGET_COMP_ID m.firm.name
    ∷ number_field MSG_SEQ_NUM m.msg_seq_num ∷ tag_value SENDING_TIME time ∷ []

-- the fields of a message: its header, the marks of a resend, and its body
pub record IsWritten (m : Outbound) (fields : List TagValue) : Type 0 where
  pub time : List ℕ
  pub writes_time : WritesMoment m.sending_time time
  pub marks : List TagValue
  pub marks_resend : MarksResend m.orig_sending_time marks
  pub parts : fields ≡ header_fields m time ++ marks ++ body_fields m.body
