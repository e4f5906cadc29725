-- The first fault of a message: its shape first, then its values in order, and last the values that must agree.
use Rattle.std.specs.Prelude.{◌≡◌, ◌⊎◌, ℕ, false, List, None, Some, MatchOption, ⊤}
use Rattle.std.specs.Option.{option_map_or}
use Rattle.gu_fix.specs.TagValue.{TagValue}
use Rattle.gu_fix.specs.declared.tag.TheConstants.{MSG_TYPE}
use Rattle.gu_msgs.specs.Agreement.{Agrees, Disagrees}
use Rattle.gu_msgs.specs.Items.{AreSound, IsFirstAtFault, message_items}
use Rattle.gu_msgs.specs.MsgTypes.{code_of, is_type_text}
use Rattle.gu_msgs.specs.Shape.{fault_at, repeated, shape_fault}
use Rattle.gu_msgs.specs.Tables.{header_rows}
use Rattle.gu_msgs.specs.Values.{first_value}
use Rattle.gu_msgs.specs.declared.fault.Fault.{Fault}
use Rattle.gu_msgs.specs.declared.fault.MsgFault.{MsgFault}
use Rattle.gu_msgs.specs.declared.fault.MsgFault.TheVariants.{Memory, Rejected}
use Rattle.gu_msgs.specs.declared.msg_type.MsgType.{MsgType}
use Rattle.gu_msgs.specs.declared.reject_reason.SessionRejectReason.TheVariants.{InvalidMsgType, RequiredTagMissing, TagAppearsMoreThanOnce, ValueIsIncorrect}

-- a message of this type without a fault
pub record IsFaultless (kind : MsgType) (fields : List TagValue) : Type 0 where
  pub shape : shape_fault kind fields ≡ None
  pub values : AreSound (message_items kind fields)
  pub agrees : Agrees kind fields

-- its shape is sound, and this is the fault of its first value that isn't allowed
pub record IsValueFault (kind : MsgType) (fields : List TagValue) (fault : Fault) : Type 0 where
  pub shape : shape_fault kind fields ≡ None
  pub first : IsFirstAtFault (message_items kind fields) fault

-- its shape and each value are sound, but the value of this tag doesn't agree with others
pub record IsDisagreement (kind : MsgType) (fields : List TagValue) (fault : Fault) : Type 0 where
  pub shape : shape_fault kind fields ≡ None
  pub values : AreSound (message_items kind fields)
  pub disagrees : Disagrees kind fields fault.tag
  pub reason : fault.reason ≡ ValueIsIncorrect

-- the first fault of a message of this type
abbrev pub IsFirstFault : MsgType → List TagValue → Fault → Type 0
IsFirstFault kind fields fault =
    (shape_fault kind fields ≡ Some fault) ⊎ IsValueFault kind fields fault ⊎ IsDisagreement kind fields fault

-- the fault of fields without a type: a repeated tag of the header, or else the missing type
abbrev pub untyped_fault : List TagValue → Fault
untyped_fault fields = option_map_or (fault_at TagAppearsMoreThanOnce) (repeated header_rows fields) (fault_at RequiredTagMissing MSG_TYPE)

-- the fault of fields whose type has this text: the type's form, or the first fault of a message of the type with this code
abbrev pub IsTypedFault : List ℕ → List TagValue → Fault → Type 0
IsTypedFault text fields fault =
    ((is_type_text text ≡ false) × (fault ≡ fault_at InvalidMsgType MSG_TYPE))
    ⊎ ((kind : MsgType) × (text ≡ code_of kind) × IsFirstFault kind fields fault)

-- the first fault of these fields
abbrev pub IsFaultOf : List TagValue → Fault → Type 0
IsFaultOf fields fault =
    MatchOption (first_value MSG_TYPE fields) (fault ≡ untyped_fault fields) (λ text. IsTypedFault text fields fault)

-- why fields are refused: out of memory, at any time, or their first fault
abbrev pub IsRefusal : List TagValue → MsgFault → Type 0
IsRefusal fields Memory = ⊤
IsRefusal fields (Rejected fault) = IsFaultOf fields fault
