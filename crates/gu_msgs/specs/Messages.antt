-- The contents of a message without a fault, type by type.
use Rattle.std.specs.Prelude.{◌≡◌, ◌≢◌, ℕ, Bool, true, false, List, [], ◌∷◌, Option, None, Some, codes, IsTrue, ⊤}
use Rattle.gu_fix.specs.TagValue.{TagValue}
use Rattle.gu_fix.specs.declared.tag.TheConstants.{MSG_TYPE}
use Rattle.gu_terms.specs.Days.{WritesDay}
use Rattle.gu_terms.specs.Lines.{lots_in_all}
use Rattle.gu_terms.specs.NumberText.{MeansLots, MeansPrice}
use Rattle.gu_terms.specs.declared.day.Day.{Day}
use Rattle.gu_terms.specs.declared.lines.Line.{Line}
use Rattle.gu_terms.specs.declared.side.Side.{Side}
use Rattle.gu_terms.specs.declared.side.Side.TheVariants.{Buy, Sell}
use Rattle.gu_msgs.specs.Agreement.{number_at}
use Rattle.gu_msgs.specs.AllocStatuses.{status_number}
use Rattle.gu_msgs.specs.Faults.{IsFaultless}
use Rattle.gu_msgs.specs.Groups.{entries_of}
use Rattle.gu_msgs.specs.MsgTypes.{code_of, is_type_text}
use Rattle.gu_msgs.specs.Values.{Holds, first_value}
use Rattle.gu_msgs.specs.declared.inbound.AllocationInstruction.{AllocationInstruction}
use Rattle.gu_msgs.specs.declared.inbound.AllocationReportAck.{AllocationReportAck}
use Rattle.gu_msgs.specs.declared.inbound.Inbound.{Inbound}
use Rattle.gu_msgs.specs.declared.inbound.Inbound.TheVariants as inbound
use Rattle.gu_msgs.specs.declared.inbound.Logon.{Logon}
use Rattle.gu_msgs.specs.declared.inbound.RequestForPositions.{RequestForPositions}
use Rattle.gu_msgs.specs.declared.inbound.ResendRequest.{ResendRequest}
use Rattle.gu_msgs.specs.declared.inbound.SequenceReset.{SequenceReset}
use Rattle.gu_msgs.specs.declared.inbound.TradeCaptureReport.{TradeCaptureReport}
use Rattle.gu_msgs.specs.declared.msg_type.MsgType.{MsgType}
use Rattle.gu_msgs.specs.declared.msg_type.MsgType.TheVariants as kind
use Rattle.gu_msgs.specs.declared.type_code.TypeCode.{TypeCode}
use Rattle.gu_msgs.specs.declared.tags.TheConstants.{ACCOUNT, ALLOC_ACCOUNT, ALLOC_ID, ALLOC_QTY, ALLOC_REPORT_ID, ALLOC_STATUS, BEGIN_SEQ_NO, END_SEQ_NO, EXEC_ID, GAP_FILL_FLAG, HEART_BT_INT, LAST_PX, LAST_QTY, NEW_SEQ_NO, NO_ALLOCS, NO_EXECS, NO_SIDES, POS_REQ_ID, QUANTITY, RESET_SEQ_NUM_FLAG, SIDE, SYMBOL, TEST_REQ_ID, TRADE_DATE, TRADE_REPORT_ID, TRD_MATCH_ID}

-- a flag: true if its value is `Y`, false otherwise, also if it is absent
abbrev pub IsFlag : ℕ → List TagValue → Bool → Type 0
IsFlag tag fields true = first_value tag fields ≡ Some (codes "Y")
IsFlag tag fields false = first_value tag fields ≢ Some (codes "Y")

-- the number of a side (Side, tag 54)
abbrev pub side_number : Side → ℕ
side_number Buy = 1
side_number Sell = 2

-- no day is given, or this one is
abbrev pub GivesDay : ℕ → List TagValue → Option Day → Type 0
GivesDay tag fields None = first_value tag fields ≡ None
GivesDay tag fields (Some day) = Holds tag (λ text. WritesDay text day.year day.month day.day) fields

-- a ResendRequest
pub record IsResendRequest (fields : List TagValue) (m : ResendRequest) : Type 0 where
  pub begin : m.begin_seq_no ≡ number_at BEGIN_SEQ_NO fields
  pub last : m.end_seq_no ≡ number_at END_SEQ_NO fields

-- a SequenceReset
pub record IsSequenceReset (fields : List TagValue) (m : SequenceReset) : Type 0 where
  pub gap_fill : IsFlag GAP_FILL_FLAG fields m.is_gap_fill
  pub number : m.new_seq_no ≡ number_at NEW_SEQ_NO fields

-- a Logon
pub record IsLogon (fields : List TagValue) (m : Logon) : Type 0 where
  pub interval : m.heart_bt_int ≡ number_at HEART_BT_INT fields
  pub resets : IsFlag RESET_SEQ_NUM_FLAG fields m.resets_seq_num

-- the entry for a report's one side
pub record IsSide (entry : List TagValue) (m : TradeCaptureReport) : Type 0 where
  pub side : number_at SIDE entry ≡ side_number m.side
  pub account : first_value ACCOUNT entry ≡ Some m.account.name

-- a TradeCaptureReport
pub record IsReport (fields : List TagValue) (m : TradeCaptureReport) : Type 0 where
  pub report_id : first_value TRADE_REPORT_ID fields ≡ Some m.trade_report_id
  pub match_id : first_value TRD_MATCH_ID fields ≡ Some m.trd_match_id
  pub symbol : first_value SYMBOL fields ≡ Some m.symbol.name
  pub quantity : Holds LAST_QTY (λ text. MeansLots text m.last_qty) fields
  pub price : Holds LAST_PX (λ text. MeansPrice text m.last_px) fields
  pub date : GivesDay TRADE_DATE fields m.trade_date
  pub entry : List TagValue
  pub one_side : entries_of kind.TradeCaptureReport NO_SIDES fields ≡ entry ∷ []
  pub is_side : IsSide entry m

-- an entry is this line of a give-up
pub record IsAlloc (entry : List TagValue) (line : Line) : Type 0 where
  pub account : first_value ALLOC_ACCOUNT entry ≡ Some line.account.name
  pub lots : Holds ALLOC_QTY (λ text. MeansLots text line.lots) entry

-- entries are these lines, each one
abbrev pub AreAllocs : List (List TagValue) → List Line → Type 0
AreAllocs [] [] = ⊤
AreAllocs (entry ∷ entries) (line ∷ lines) = IsAlloc entry line × AreAllocs entries lines
AreAllocs [] (line ∷ lines) = ⊥
AreAllocs (entry ∷ entries) [] = ⊥

-- an AllocationInstruction apart from its quantity
pub record HasAllocs (fields : List TagValue) (m : AllocationInstruction) : Type 0 where
  pub alloc_id : first_value ALLOC_ID fields ≡ Some m.alloc_id
  pub entry : List TagValue
  pub one_exec : entries_of kind.AllocationInstruction NO_EXECS fields ≡ entry ∷ []
  pub exec_id : first_value EXEC_ID entry ≡ Some m.exec_id
  pub allocs : AreAllocs (entries_of kind.AllocationInstruction NO_ALLOCS fields) m.lines

-- an AllocationInstruction: its quantity is the total lots of its lines
pub record IsInstruction (fields : List TagValue) (m : AllocationInstruction) : Type 0 where
  pub parts : HasAllocs fields m
  pub quantity : Holds QUANTITY (λ text. MeansLots text (lots_in_all m.lines)) fields

-- an AllocationReportAck
pub record IsReportAck (fields : List TagValue) (m : AllocationReportAck) : Type 0 where
  pub offer : m.alloc_report_id ≡ number_at ALLOC_REPORT_ID fields
  pub status : number_at ALLOC_STATUS fields ≡ status_number m.alloc_status

-- a RequestForPositions
pub record IsRequest (fields : List TagValue) (m : RequestForPositions) : Type 0 where
  pub request_id : first_value POS_REQ_ID fields ≡ Some m.pos_req_id
  pub account : first_value ACCOUNT fields ≡ Some m.account.name

-- a message of this type without a fault
pub record IsOfType (msg_type : MsgType) (fields : List TagValue) : Type 0 where
  pub code : first_value MSG_TYPE fields ≡ Some (code_of msg_type)
  pub faultless : IsFaultless msg_type fields

-- a message of a type that isn't read, whose code has the form of one
pub record IsUnread (fields : List TagValue) (code : TypeCode) : Type 0 where
  pub stands : first_value MSG_TYPE fields ≡ Some code
  pub sound : IsTrue (is_type_text code)
  pub other : (msg_type : MsgType) → code ≢ code_of msg_type

-- a message's fields have these contents
abbrev pub Says : List TagValue → Inbound → Type 0
Says fields inbound.Heartbeat = IsOfType kind.Heartbeat fields
Says fields (inbound.TestRequest m) = IsOfType kind.TestRequest fields × (first_value TEST_REQ_ID fields ≡ Some m.test_req_id)
Says fields (inbound.ResendRequest m) = IsOfType kind.ResendRequest fields × IsResendRequest fields m
Says fields inbound.Reject = IsOfType kind.Reject fields
Says fields (inbound.SequenceReset m) = IsOfType kind.SequenceReset fields × IsSequenceReset fields m
Says fields inbound.Logout = IsOfType kind.Logout fields
Says fields (inbound.Logon m) = IsOfType kind.Logon fields × IsLogon fields m
Says fields (inbound.TradeCaptureReport m) = IsOfType kind.TradeCaptureReport fields × IsReport fields m
Says fields (inbound.AllocationInstruction m) = IsOfType kind.AllocationInstruction fields × IsInstruction fields m
Says fields (inbound.AllocationReportAck m) = IsOfType kind.AllocationReportAck fields × IsReportAck fields m
Says fields (inbound.RequestForPositions m) = IsOfType kind.RequestForPositions fields × IsRequest fields m
Says fields (inbound.Unread code) = IsUnread fields code
