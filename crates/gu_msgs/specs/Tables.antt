-- The table of messages that are read: the tags of the header, of each type and of each group, in order.
use Rattle.std.specs.Prelude.{ℕ, ◌==◌, List, [], ◌∷◌, ◌++◌, if◌then◌else◌}
use Rattle.gu_fix.specs.declared.tag.TheConstants.{BEGIN_STRING, BODY_LENGTH, CHECK_SUM, MSG_TYPE}
use Rattle.gu_msgs.specs.declared.msg_type.MsgType.{MsgType}
use Rattle.gu_msgs.specs.declared.msg_type.MsgType.TheVariants.{Heartbeat, TestRequest, ResendRequest, Reject, SequenceReset, Logout, Logon, TradeCaptureReport, AllocationInstruction, AllocationReportAck, RequestForPositions}
use Rattle.gu_msgs.specs.declared.row.Kind.TheVariants.{Text, TestReqId, YesOrNo, Id, Name, Lots, Price, Date, Number, Status}
use Rattle.gu_msgs.specs.declared.row.Row.{Row}
use Rattle.gu_msgs.specs.declared.row.Row.TheVariants.{Required, Optional}
use Rattle.gu_msgs.specs.declared.tags.TheConstants.{ACCOUNT, BEGIN_SEQ_NO, END_SEQ_NO, EXEC_ID, LAST_PX, LAST_QTY, MSG_SEQ_NUM, NEW_SEQ_NO, POSS_DUP_FLAG, SENDER_COMP_ID, SENDING_TIME, QUANTITY, SIDE, SYMBOL, TARGET_COMP_ID, ALLOC_ID, ALLOC_TRANS_TYPE, TRADE_DATE, NO_ALLOCS, ALLOC_ACCOUNT, ALLOC_QTY, ALLOC_STATUS, ENCRYPT_METHOD, HEART_BT_INT, TEST_REQ_ID, ORIG_SENDING_TIME, GAP_FILL_FLAG, NO_EXECS, RESET_SEQ_NUM_FLAG, TRADE_REPORT_TRANS_TYPE, NO_SIDES, TRADE_REPORT_ID, POS_REQ_ID, POS_REQ_TYPE, ALLOC_REPORT_ID, TRADE_REPORT_TYPE, TRD_MATCH_ID, DEFAULT_APPL_VER_ID}

-- the greatest whole number in a message
abbrev pub greatest : ℕ
greatest = 1000000000

-- the header and CheckSum, common to all types; only PossDupFlag and the number have a restricted text
unfoldable pub header_rows : List Row
header_rows =
    Required BEGIN_STRING Text ∷ Required BODY_LENGTH Text ∷ Required MSG_TYPE Text
    ∷ Required SENDER_COMP_ID Text ∷ Required TARGET_COMP_ID Text ∷ Required MSG_SEQ_NUM (Number 0 greatest)
    ∷ Required SENDING_TIME Text
    ∷ Optional POSS_DUP_FLAG YesOrNo ∷ Optional ORIG_SENDING_TIME Text ∷ Required CHECK_SUM Text ∷ []

-- the tags of a type's own
unfoldable pub body_rows : MsgType → List Row
body_rows Heartbeat = Optional TEST_REQ_ID Text ∷ []
body_rows TestRequest = Required TEST_REQ_ID TestReqId ∷ []
body_rows ResendRequest = Required BEGIN_SEQ_NO (Number 1 greatest) ∷ Required END_SEQ_NO (Number 0 greatest) ∷ []
body_rows Reject = []
body_rows SequenceReset = Optional GAP_FILL_FLAG YesOrNo ∷ Required NEW_SEQ_NO (Number 1 greatest) ∷ []
body_rows Logout = []
body_rows Logon =
    Required ENCRYPT_METHOD (Number 0 0) ∷ Required HEART_BT_INT (Number 0 3600) ∷ Required DEFAULT_APPL_VER_ID (Number 9 9)
    ∷ Optional RESET_SEQ_NUM_FLAG YesOrNo ∷ []
body_rows TradeCaptureReport =
    Required TRADE_REPORT_ID Id ∷ Optional TRADE_REPORT_TRANS_TYPE (Number 0 0) ∷ Optional TRADE_REPORT_TYPE (Number 0 0)
    ∷ Required TRD_MATCH_ID Id ∷ Required SYMBOL Name ∷ Required LAST_QTY Lots ∷ Required LAST_PX Price ∷ Optional TRADE_DATE Date
    ∷ Required NO_SIDES (Number 1 1) ∷ []
body_rows AllocationInstruction =
    Required ALLOC_ID Id ∷ Optional ALLOC_TRANS_TYPE (Number 0 0) ∷ Required QUANTITY Lots
    ∷ Required NO_EXECS (Number 1 1) ∷ Required NO_ALLOCS (Number 1 16) ∷ []
body_rows AllocationReportAck = Required ALLOC_REPORT_ID (Number 1 16000000) ∷ Required ALLOC_STATUS Status ∷ []
body_rows RequestForPositions = Required POS_REQ_ID Id ∷ Required POS_REQ_TYPE (Number 0 0) ∷ Required ACCOUNT Name ∷ []

-- all tags read at the outer level of a message of this type
abbrev pub outer_rows : MsgType → List Row
outer_rows kind = header_rows ++ body_rows kind

-- the tags of an entry in the group with this counter, the first of which begins an entry; other tags count nothing
unfoldable pub entry_rows : ℕ → List Row
entry_rows counter =
    if counter == NO_SIDES then Required SIDE (Number 1 2) ∷ Required ACCOUNT Name ∷ []
    else (if counter == NO_EXECS then Required EXEC_ID Id ∷ []
    else (if counter == NO_ALLOCS then Required ALLOC_ACCOUNT Name ∷ Required ALLOC_QTY Lots ∷ []
    else []))
