-- The types of messages, tag 35 (FIXT 1.1, Standard Header: MsgType).
use Rattle.std.specs.Prelude.{ℕ, Bool, ◌||◌, ◌&&◌, nat_le, List, length, codes}
use Rattle.std.specs.List.{list_all}
use Rattle.gu_msgs.specs.declared.msg_type.MsgType.{MsgType}
use Rattle.gu_msgs.specs.declared.msg_type.MsgType.TheVariants.{Heartbeat, TestRequest, ResendRequest, Reject, SequenceReset, Logout, Logon, TradeCaptureReport, AllocationInstruction, AllocationReportAck, RequestForPositions}

-- a letter or a digit
abbrev pub is_type_byte : ℕ → Bool
is_type_byte b = (nat_le 48 b && nat_le b 57) || (nat_le 65 b && nat_le b 90) || (nat_le 97 b && nat_le b 122)

-- the form of a type: one to three letters or digits
abbrev pub is_type_text : List ℕ → Bool
is_type_text text = nat_le 1 (length text) && nat_le (length text) 3 && list_all is_type_byte text

-- the code of a type that is read
abbrev pub code_of : MsgType → List ℕ
code_of Heartbeat = codes "0"
code_of TestRequest = codes "1"
code_of ResendRequest = codes "2"
code_of Reject = codes "3"
code_of SequenceReset = codes "4"
code_of Logout = codes "5"
code_of Logon = codes "A"
code_of TradeCaptureReport = codes "AE"
code_of AllocationInstruction = codes "J"
code_of AllocationReportAck = codes "AT"
code_of RequestForPositions = codes "AN"
