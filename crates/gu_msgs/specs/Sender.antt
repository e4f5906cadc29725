-- The sender of a message outside a session: SenderCompID, tag 49, and MsgSeqNum, tag 34 (FIXT 1.1, Standard Header).
use Rattle.std.specs.Prelude.{◌≡◌, List, Some, MatchOption}
use Rattle.gu_terms.specs.Names.{IsName}
use Rattle.gu_terms.specs.declared.firm.FirmId.{FirmId}
use Rattle.gu_fix.specs.TagValue.{TagValue}
use Rattle.gu_msgs.specs.Kinds.{IsNumberWithin}
use Rattle.gu_msgs.specs.Tables.{greatest}
use Rattle.gu_msgs.specs.Values.{only_value}
use Rattle.gu_msgs.specs.declared.tags.TheConstants.{MSG_SEQ_NUM, SENDER_COMP_ID}

-- the message's number is one that a message of a session can have
abbrev pub IsNumbered : List TagValue → Type 0
IsNumbered fields = MatchOption (only_value MSG_SEQ_NUM fields) ⊥ (IsNumberWithin 1 greatest)

-- the message is numbered, and its sender has the name of this firm
pub record IsSentBy (fields : List TagValue) (firm : FirmId) : Type 0 where
  pub numbered : IsNumbered fields
  pub sender : only_value SENDER_COMP_ID fields ≡ Some firm.name
  pub name : IsName firm.name
