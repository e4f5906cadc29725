-- The bodies of messages that are written, in order.
use Rattle.std.specs.Prelude.{◌==◌, ◌++◌, ℕ, Bool, List, [], ◌∷◌, Option, None, Some, codes, if◌then◌else◌}
use Rattle.std.specs.Fmt.{decimal}
use Rattle.gu_fix.specs.TagValue.{TagValue, tag_value}
use Rattle.gu_terms.specs.declared.alloc_reject.AllocReject.TheVariants.{BlockLevel}
use Rattle.gu_msgs.specs.AllocStatuses.{status_number, status_of}
use Rattle.gu_msgs.specs.CodedValues.{business_number, report_type_number, report_type_of, request_result, request_status, reports_count, side_letter}
use Rattle.gu_msgs.specs.Messages.{side_number}
use Rattle.gu_msgs.specs.MsgTypes.{code_of}
use Rattle.gu_msgs.specs.RejectReasons.{number_of}
use Rattle.gu_msgs.specs.Rejections.{reason_number, reason_of, rejection_text}
use Rattle.gu_terms.specs.WrittenNumbers.{date_text, price_text}
use Rattle.gu_msgs.specs.declared.alloc_status.AllocStatus.TheVariants.{Accepted, Rejected}
use Rattle.gu_msgs.specs.declared.coded_values.BusinessRejectReason.{BusinessRejectReason}
use Rattle.gu_msgs.specs.declared.coded_values.BusinessRejectReason.TheVariants.{Other, UnsupportedMessageType}
use Rattle.gu_msgs.specs.declared.msg_type.MsgType.TheVariants.{AllocationReportAck}
use Rattle.gu_msgs.specs.declared.outbound.AllocationInstructionAck.{AllocationInstructionAck}
use Rattle.gu_msgs.specs.declared.outbound.AllocationReport.{AllocationReport}
use Rattle.gu_msgs.specs.declared.outbound.BusinessMessageReject.{BusinessMessageReject}
use Rattle.gu_msgs.specs.declared.outbound.PositionReport.{PositionReport}
use Rattle.gu_msgs.specs.declared.outbound.Reject.{Reject}
use Rattle.gu_msgs.specs.declared.outbound.RequestForPositionsAck.{RequestForPositionsAck}
use Rattle.gu_msgs.specs.declared.outbound.TradeCaptureReport.{TradeCaptureReport}
use Rattle.gu_msgs.specs.declared.outbound.TradeCaptureReportAck.{TradeCaptureReportAck}
use Rattle.gu_msgs.specs.declared.rejection.Rejection.{Rejection}
use Rattle.gu_msgs.specs.declared.tags.TheConstants.{ACCOUNT, ALLOC_ACCOUNT, ALLOC_ID, ALLOC_QTY, ALLOC_REJ_CODE, ALLOC_REPORT_ID, ALLOC_REPORT_TYPE, ALLOC_STATUS, ALLOC_TRANS_TYPE, AVG_PX, BUSINESS_REJECT_REASON, BUSINESS_REJECT_REF_ID, CLEARING_BUSINESS_DATE, DEFAULT_APPL_VER_ID, ENCRYPT_METHOD, HEART_BT_INT, LAST_PX, LAST_QTY, LONG_QTY, MATCH_STATUS, NO_ALLOCS, NO_POSITIONS, NO_SIDES, POS_MAINT_RPT_ID, POS_REQ_ID, POS_REQ_RESULT, POS_REQ_STATUS, POS_TYPE, QUANTITY, REF_MSG_TYPE, REF_SEQ_NUM, REF_TAG_ID, RESET_SEQ_NUM_FLAG, SESSION_REJECT_REASON, SHORT_QTY, SIDE, SYMBOL, TEXT, TOTAL_NUM_POS_REPORTS, TRADE_DATE, TRADE_REPORT_ID, TRADE_REPORT_REF_ID, TRADE_REPORT_REJECT_REASON, TRD_MATCH_ID, TRD_RPT_STATUS}

-- a field with a number, written without leading zeros
abbrev pub number_field : ℕ → ℕ → TagValue
number_field tag n = tag_value tag (decimal n)

-- a field if there is a value, else none
abbrev pub optional_field : ℕ → Option (List ℕ) → List TagValue
optional_field tag None = []
optional_field tag (Some value) = tag_value tag value ∷ []

-- a Logon: the heartbeat interval, and ResetSeqNumFlag if it is set
abbrev pub logon_fields : ℕ → Bool → List TagValue
logon_fields interval resets =
    number_field ENCRYPT_METHOD 0 ∷ number_field HEART_BT_INT interval ∷ number_field DEFAULT_APPL_VER_ID 9
    ∷ (if resets then tag_value RESET_SEQ_NUM_FLAG (codes "Y") ∷ [] else [])

-- a Reject: the tag at fault if one can be read, and the message's type if it has the form of one
abbrev pub reject_fields : Reject → List TagValue
reject_fields m =
    number_field REF_SEQ_NUM m.ref_seq_num
    ∷ ((if m.ref_tag_id == 0 then [] else number_field REF_TAG_ID m.ref_tag_id ∷ [])
    ++ optional_field REF_MSG_TYPE m.ref_msg_type
    ++ number_field SESSION_REJECT_REASON (number_of m.reason) ∷ [])

-- the reason for a BusinessMessageReject: for an AllocationReportAck its offer and the text of its rejection, for any other message its
-- type
abbrev pub reason_fields : BusinessRejectReason → List TagValue
reason_fields (Other offer rejection) =
    number_field BUSINESS_REJECT_REF_ID offer ∷ tag_value REF_MSG_TYPE (code_of AllocationReportAck)
    ∷ number_field BUSINESS_REJECT_REASON (business_number (Other offer rejection)) ∷ tag_value TEXT (rejection_text rejection) ∷ []
reason_fields (UnsupportedMessageType code) =
    tag_value REF_MSG_TYPE code ∷ number_field BUSINESS_REJECT_REASON (business_number (UnsupportedMessageType code)) ∷ []

-- a BusinessMessageReject
abbrev pub business_fields : BusinessMessageReject → List TagValue
business_fields m = number_field REF_SEQ_NUM m.ref_seq_num ∷ reason_fields m.reason

-- whether a report was accepted: 0; or 1 with the kind of the rejection and its text
abbrev pub report_status : Option Rejection → List TagValue
report_status None = number_field TRD_RPT_STATUS 0 ∷ []
report_status (Some rejection) =
    number_field TRD_RPT_STATUS 1 ∷ number_field TRADE_REPORT_REJECT_REASON (reason_number (reason_of rejection))
    ∷ tag_value TEXT (rejection_text rejection) ∷ []

-- a TradeCaptureReportAck
abbrev pub report_ack_fields : TradeCaptureReportAck → List TagValue
report_ack_fields m = tag_value TRADE_REPORT_ID m.trade_report_id ∷ tag_value TRD_MATCH_ID m.trd_match_id ∷ report_status m.rejection

-- whether a give-up was accepted: Accepted; or BlockLevelReject with the only code for a rejection and its text
abbrev pub give_up_status : Option Rejection → List TagValue
give_up_status None = number_field ALLOC_STATUS (status_number Accepted) ∷ []
give_up_status (Some rejection) =
    number_field ALLOC_STATUS (status_number (Rejected BlockLevel)) ∷ number_field ALLOC_REJ_CODE 99
    ∷ tag_value TEXT (rejection_text rejection) ∷ []

-- an AllocationInstructionAck
abbrev pub instruction_ack_fields : AllocationInstructionAck → List TagValue
instruction_ack_fields m = tag_value ALLOC_ID m.alloc_id ∷ give_up_status m.rejection

-- the trade of a side: its match status and match id, the instrument, the lots, the price and the day
abbrev pub trade_fields : TradeCaptureReport → List TagValue
trade_fields m =
    number_field MATCH_STATUS 0 ∷ tag_value TRD_MATCH_ID m.trd_match_id
    ∷ tag_value SYMBOL m.symbol.name ∷ number_field LAST_QTY m.last_qty ∷ tag_value LAST_PX (price_text m.last_px)
    ∷ tag_value TRADE_DATE (date_text m.trade_date.year m.trade_date.month m.trade_date.day) ∷ []

-- a TradeCaptureReport: the id is the entry's number with the side's letter, and there is one side
abbrev pub report_fields : TradeCaptureReport → List TagValue
report_fields m =
    tag_value TRADE_REPORT_ID (decimal m.entry ++ 45 ∷ side_letter m.side ∷ [])
    ∷ tag_value TRADE_REPORT_REF_ID m.trade_report_ref_id
    ∷ (trade_fields m ++ number_field NO_SIDES 1 ∷ number_field SIDE (side_number m.side) ∷ tag_value ACCOUNT m.account.name ∷ [])

-- the offer that a report is for, and the event
abbrev pub offer_fields : AllocationReport → List TagValue
offer_fields m =
    number_field ALLOC_REPORT_ID m.alloc_report_id ∷ number_field ALLOC_TRANS_TYPE 0
    ∷ number_field ALLOC_REPORT_TYPE (report_type_number (report_type_of m.event))
    ∷ number_field ALLOC_STATUS (status_number (status_of m.event)) ∷ []

-- the trade that the offer gives up
abbrev pub offered_fields : AllocationReport → List TagValue
offered_fields m =
    tag_value SYMBOL m.symbol.name ∷ number_field SIDE (side_number m.side) ∷ number_field QUANTITY m.quantity
    ∷ tag_value AVG_PX (price_text m.avg_px)
    ∷ tag_value TRADE_DATE (date_text m.trade_date.year m.trade_date.month m.trade_date.day) ∷ []

-- an AllocationReport: one account with all the lots
abbrev pub allocation_fields : AllocationReport → List TagValue
allocation_fields m =
    offer_fields m ++ offered_fields m
    ++ number_field NO_ALLOCS 1 ∷ tag_value ALLOC_ACCOUNT m.account.name ∷ number_field ALLOC_QTY m.quantity ∷ []

-- the id of an answer to a question: the question's id and the answer's place, 0 for the first
abbrev pub answer_id : List ℕ → ℕ → List ℕ
answer_id id place = id ++ 45 ∷ decimal place

-- the ids of an answer to a question: its own and the question's
abbrev pub answer_ids : List ℕ → ℕ → List TagValue
answer_ids id place = tag_value POS_MAINT_RPT_ID (answer_id id place) ∷ tag_value POS_REQ_ID id ∷ []

-- a RequestForPositionsAck
abbrev pub request_ack_fields : RequestForPositionsAck → List TagValue
request_ack_fields m =
    answer_ids m.pos_req_id 0
    ++ number_field POS_REQ_RESULT (request_result m.outcome) ∷ number_field POS_REQ_STATUS (request_status m.outcome)
    ∷ number_field TOTAL_NUM_POS_REPORTS (reports_count m.outcome) ∷ tag_value ACCOUNT m.account.name ∷ []

-- the quantities of a position: one of the type TQ, long and short
abbrev pub quantity_fields : PositionReport → List TagValue
quantity_fields m =
    number_field NO_POSITIONS 1 ∷ tag_value POS_TYPE (codes "TQ") ∷ number_field LONG_QTY m.long_qty
    ∷ number_field SHORT_QTY m.short_qty ∷ []

-- a PositionReport
abbrev pub position_fields : PositionReport → List TagValue
position_fields m =
    answer_ids m.pos_req_id m.place ++ number_field POS_REQ_RESULT 0
    ∷ tag_value CLEARING_BUSINESS_DATE
    (date_text m.clearing_business_date.year m.clearing_business_date.month m.clearing_business_date.day)
    ∷ tag_value ACCOUNT m.account.name ∷ tag_value SYMBOL m.symbol.name ∷ quantity_fields m
