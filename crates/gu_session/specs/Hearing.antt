-- The content of a frame, as a session reads it (FIXT 1.1, Standard Header).
use Rattle.std.specs.Prelude.{◌≡◌, ℕ, Bool, false, List, Option, None, Some, Result, Ok, Err, codes, if◌then◌else◌, option_and_then}
use Rattle.std.specs.Option.{option_map_or}
use Rattle.std.specs.Str.{bytes_eq}
use Rattle.std.specs.Str.Parse.{digits_value}
use Rattle.gu_terms.specs.Names.{IsName}
use Rattle.gu_terms.specs.declared.firm.FirmId.{FirmId}
use Rattle.gu_fix.specs.Fields.{HasFields}
use Rattle.gu_fix.specs.TagValue.{TagValue}
use Rattle.gu_fix.specs.declared.error.FieldFault.{FieldFault}
use Rattle.gu_fix.specs.declared.tag.TheConstants.{MSG_TYPE}
use Rattle.gu_msgs.specs.Faults.{IsFaultOf}
use Rattle.gu_msgs.specs.Kinds.{IsNumberWithin}
use Rattle.gu_msgs.specs.Messages.{Says}
use Rattle.gu_msgs.specs.MsgTypes.{is_type_text}
use Rattle.gu_msgs.specs.RejectReasons.{reason_of_field}
use Rattle.gu_msgs.specs.Values.{first_value, only_value}
use Rattle.gu_msgs.specs.declared.fault.Fault.{Fault}
use Rattle.gu_msgs.specs.declared.inbound.Inbound.{Inbound}
use Rattle.gu_msgs.specs.declared.tags.TheConstants.{MSG_SEQ_NUM, POSS_DUP_FLAG, SENDER_COMP_ID, TARGET_COMP_ID}
use Rattle.gu_session.specs.SeqNums.{greatest}
use Rattle.gu_session.specs.declared.heard.Heading.{Heading}
use Rattle.gu_session.specs.declared.heard.Heard.{Heard}

-- the number in a text, if it is from 1 to the greatest
abbrev pub IsNumberIn : Option (List ℕ) → Option ℕ → Type 0
IsNumberIn None number = number ≡ None
IsNumberIn (Some text) None = ¬ IsNumberWithin 1 greatest text
IsNumberIn (Some text) (Some number) = IsNumberWithin 1 greatest text × (digits_value 10 text ≡ number)

-- the firm with this name, if it is a valid name
abbrev pub IsFirmIn : Option (List ℕ) → Option FirmId → Type 0
IsFirmIn None firm = firm ≡ None
IsFirmIn (Some name) None = ¬ IsName name
IsFirmIn (Some name) (Some firm) = IsName name × (firm.name ≡ name)

-- the code of a type, if the text has the form of one
abbrev pub code_in : List ℕ → Option (List ℕ)
code_in text = if is_type_text text then Some text else None

-- a value is given, and it is this text
abbrev pub is_given : List ℕ → Option (List ℕ) → Bool
is_given text value = option_map_or (bytes_eq text) value false

-- the header: the type is the first MsgType, and each other part is the value of a tag that occurs exactly once
pub record IsHeading (fields : List TagValue) (heading : Heading) : Type 0 where
  pub number : IsNumberIn (only_value MSG_SEQ_NUM fields) heading.number
  pub msg_type : heading.msg_type ≡ option_and_then code_in (first_value MSG_TYPE fields)
  pub sender : IsFirmIn (only_value SENDER_COMP_ID fields) heading.sender
  pub to_house : heading.is_to_house ≡ is_given (codes "GIVEUP") (only_value TARGET_COMP_ID fields)
  pub poss_dup : heading.is_poss_dup ≡ is_given (codes "Y") (only_value POSS_DUP_FLAG fields)

-- a malformed field comes first; fields without one are a message or have a first fault
abbrev pub IsContent : Option FieldFault → List TagValue → Result Inbound Fault → Type 0
IsContent (Some fault) fields content = content ≡ Err (record { tag = fault.tag; reason = reason_of_field fault.reason })
IsContent None fields (Ok message) = Says fields message
IsContent None fields (Err fault) = IsFaultOf fields fault

-- the content of a frame's bytes; the well-formed fields after a malformed one also count for the header
pub record Hears (bytes : List ℕ) (heard : Heard) : Type 0 where
  pub fields : List TagValue
  pub fault : Option FieldFault
  pub has_fields : HasFields bytes fields fault
  pub heading : IsHeading fields heard.heading
  pub content : IsContent fault fields heard.content
