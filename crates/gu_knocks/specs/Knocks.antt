-- The first message of a connection, looked at before there is a session: which firm it lets in.
use Rattle.std.specs.Prelude.{◌≡◌, ℕ, List, Option, None, Some, option_and_then}
use Rattle.gu_fix.specs.Fields.{HasFields}
use Rattle.gu_fix.specs.Stream.{IsFirstFrame}
use Rattle.gu_fix.specs.TagValue.{TagValue}
use Rattle.gu_fix.specs.declared.error.FieldFault.{FieldFault}
use Rattle.gu_msgs.specs.Values.{first_value, only_value}
use Rattle.gu_msgs.specs.declared.tags.TheConstants.{SENDER_COMP_ID}
use Rattle.gu_secrets.specs.Secrets.{Admits, firm_named}
use Rattle.gu_secrets.specs.declared.row.SecretRow.{SecretRow}
use Rattle.gu_terms.specs.declared.firm.FirmId.{FirmId}
use Rattle.gu_knocks.specs.declared.guard.TheConstants.{PASSWORD}

-- the one of these firms that a message's SenderCompID (49) names, if that is there exactly once
abbrev pub caller_in : List FirmId → List TagValue → Option FirmId
caller_in firms fields = option_and_then (firm_named firms) (only_value SENDER_COMP_ID fields)

-- a message's fields let a firm in: it is the one that sent them, and the rows admit it by the first Password (554)
pub record LetsIn (rows : List SecretRow) (firms : List FirmId) (fields : List TagValue) (firm : FirmId) : Type 0 where
  pub sender : caller_in firms fields ≡ Some firm
  pub admitted : Admits rows firm (first_value PASSWORD fields)

-- the firm that is let in, or that none is
abbrev pub IsLetIn : List SecretRow → List FirmId → List TagValue → Option FirmId → Type 0
IsLetIn rows firms fields (Some firm) = LetsIn rows firms fields firm
IsLetIn rows firms fields None = (firm : FirmId) → ¬ (LetsIn rows firms fields firm)

-- the same by a message's bytes
pub record Judges (rows : List SecretRow) (firms : List FirmId) (message : List ℕ) (answer : Option FirmId) : Type 0 where
  pub fields : List TagValue
  pub fault : Option FieldFault
  pub read : HasFields message fields fault
  pub let_in : IsLetIn rows firms fields answer

-- the same by the first message of everything sent
pub record JudgesFirst (rows : List SecretRow) (firms : List FirmId) (said : List ℕ) (answer : Option FirmId) : Type 0 where
  pub message : List ℕ
  pub rest : List ℕ
  pub first : IsFirstFrame said message rest
  pub judged : Judges rows firms message answer
