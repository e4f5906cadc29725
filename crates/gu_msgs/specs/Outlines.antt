-- Machinery: a message of sound shape, and its values, which are read in the order of its type's table. No other crate names this file.
use Rattle.std.specs.Prelude.{◌≡◌, ◌≢◌, ◌<◌, ◌≤◌, ℕ, List, [], ◌∷◌, length, Option, None, Some, Result, Ok, Err, take, ⊤}
use Rattle.std.specs.List.{flat_map}
use Rattle.gu_fix.specs.TagValue.{TagValue}
use Rattle.gu_fix.specs.declared.tag.TheConstants.{MSG_TYPE}
use Rattle.gu_terms.specs.declared.account.AccountId.{AccountId}
use Rattle.gu_terms.specs.declared.side.Side.{Side}
use Rattle.gu_msgs.specs.Agreement.{number_at}
use Rattle.gu_msgs.specs.Faults.{IsFirstFault}
use Rattle.gu_msgs.specs.Groups.{entries_of}
use Rattle.gu_msgs.specs.Items.{AreSound, IsFirstAtFault, IsSoundItem, Item, item_of, items_of, message_items, row_items}
use Rattle.gu_msgs.specs.Messages.{side_number}
use Rattle.gu_msgs.specs.MsgTypes.{code_of}
use Rattle.gu_msgs.specs.Rows.{tag_of}
use Rattle.gu_msgs.specs.Shape.{entries_fault, shape_fault, tags_fault}
use Rattle.gu_msgs.specs.Standings.{AreStandings, row_at}
use Rattle.gu_msgs.specs.Tables.{entry_rows, outer_rows}
use Rattle.gu_msgs.specs.Values.{Holds, first_value}
use Rattle.gu_msgs.specs.declared.fault.Fault.{Fault}
use Rattle.gu_msgs.specs.declared.fault.MsgFault.{MsgFault}
use Rattle.gu_msgs.specs.declared.fault.MsgFault.TheVariants.{Memory, Rejected}
use Rattle.gu_msgs.specs.declared.msg_type.MsgType.{MsgType}
use Rattle.gu_msgs.specs.declared.msg_type.MsgType.TheVariants as kind
use Rattle.gu_msgs.specs.declared.row.Row.{Row}
use Rattle.gu_msgs.specs.declared.tags.TheConstants.{ACCOUNT, EXEC_ID, NO_EXECS, NO_SIDES, SIDE}

-- a message: its type, and its fields
pub record Outlined : Type 0 where
  pub kind : MsgType
  pub fields : List TagValue

-- its shape is sound, and these are the numbers of the first fields with the tags of its type's table
pub record IsOutline (kind : MsgType) (fields : List TagValue) (numbers : List ℕ) : Type 0 where
  pub shape : shape_fault kind fields ≡ None
  pub standings : AreStandings (outer_rows kind) fields numbers

-- the row at an index of its table
abbrev pub row : Outlined → ℕ → Row
row m place = row_at (outer_rows m.kind) place

-- the row's tag
abbrev pub tag_at : Outlined → ℕ → ℕ
tag_at m place = tag_of (row m place)

-- the value of the tag
abbrev pub value_at : Outlined → ℕ → Option (List ℕ)
value_at m place = first_value (tag_at m place) m.fields

-- each value in the rows before an index is absent or allowed
abbrev pub AreJudged : Outlined → ℕ → Type 0
AreJudged m place = AreSound (flat_map (row_items m.kind m.fields) (take place (outer_rows m.kind)))

-- the row at this index is this one, which counts no group
pub record IsPlain (m : Outlined) (place : ℕ) (of : Row) : Type 0 where
  pub within : place < length (outer_rows m.kind)
  pub is_row : row m place ≡ of
  pub plain : entry_rows (tag_of of) ≡ []

-- the row at this index is this one, which counts a group
pub record IsCounter (m : Outlined) (place : ℕ) (of : Row) : Type 0 where
  pub within : place < length (outer_rows m.kind)
  pub is_row : row m place ≡ of
  pub counts : entry_rows (tag_of of) ≢ []

-- the result of reading a message's values up to an index: a value with this property if each is allowed, or else the first fault
abbrev pub ReadsTo : {T : Type 0} → Outlined → ℕ → (T → Type 0) → Result T Fault → Type 0
ReadsTo m place Says (Ok value) = Says value × AreJudged m place
ReadsTo m place Says (Err fault) = IsFirstAtFault (message_items m.kind m.fields) fault

-- an allocation failed, or this is the first of these values that isn't allowed
abbrev pub IsRefusedOf : List Item → MsgFault → Type 0
IsRefusedOf items Memory = ⊤
IsRefusedOf items (Rejected fault) = IsFirstAtFault items fault

-- the same, unless an allocation fails
abbrev pub ReadsToOrMemory : {T : Type 0} → Outlined → ℕ → (T → Type 0) → Result T MsgFault → Type 0
ReadsToOrMemory m place Says (Ok value) = Says value × AreJudged m place
ReadsToOrMemory m place Says (Err e) = IsRefusedOf (message_items m.kind m.fields) e

-- the text of the required row at an index means this value
abbrev pub Means : {T : Type 0} → Outlined → ℕ → (List ℕ → T → Type 0) → T → Type 0
Means m place IsMeant value = Holds (tag_at m place) (λ text. IsMeant text value) m.fields

-- the same for a row that may be absent
abbrev pub MayMean : {T : Type 0} → Outlined → ℕ → (List ℕ → T → Type 0) → Option T → Type 0
MayMean m place IsMeant None = value_at m place ≡ None
MayMean m place IsMeant (Some value) = Means m place IsMeant value

-- the entries of the group that the row at a place counts
abbrev pub entries_at : Outlined → ℕ → List (List TagValue)
entries_at m place = entries_of m.kind (tag_at m place) m.fields

-- the rows of such an entry
abbrev pub entry_rows_at : Outlined → ℕ → List Row
entry_rows_at m place = entry_rows (tag_at m place)

-- a counter that is allowed: its group has `n` entries, each with the tags that it must have
pub record CountsEntries (m : Outlined) (place least most n : ℕ) : Type 0 where
  pub sound : IsSoundItem (item_of m.fields (row m place))
  pub counted : n ≡ length (entries_at m place)
  pub tags : entries_fault (entry_rows_at m place) (entries_at m place) ≡ None
  pub from : least ≤ n
  pub to : n ≤ most

-- the same for a group with only this entry
pub record HasOneEntry (m : Outlined) (place : ℕ) (entry : List TagValue) : Type 0 where
  pub sound : IsSoundItem (item_of m.fields (row m place))
  pub one : entries_at m place ≡ entry ∷ []
  pub tags : tags_fault (entry_rows_at m place) entry ≡ None

-- the result of reading the values of these rows in an entry: a value with this property if each is allowed, or else the first fault
abbrev pub ReadsEntry : {T : Type 0} → List Row → List TagValue → (T → Type 0) → Result T Fault → Type 0
ReadsEntry rows entry Says (Ok value) = Says value × AreSound (items_of rows entry)
ReadsEntry rows entry Says (Err fault) = IsFirstAtFault (items_of rows entry) fault

-- the same for several entries, unless an allocation fails
abbrev pub ReadsEntriesOrMemory : {T : Type 0} → List Row → List (List TagValue) → (T → Type 0) → Result T MsgFault → Type 0
ReadsEntriesOrMemory rows entries Says (Ok value) = Says value × AreSound (flat_map (items_of rows) entries)
ReadsEntriesOrMemory rows entries Says (Err e) = IsRefusedOf (flat_map (items_of rows) entries) e

-- a message of this type of sound shape
pub record IsShaped (kind : MsgType) (m : Outlined) : Type 0 where
  pub is_kind : m.kind ≡ kind
  pub code : first_value MSG_TYPE m.fields ≡ Some (code_of kind)
  pub shape : shape_fault kind m.fields ≡ None

-- why a message of this type is refused: an allocation failed, or its first fault
abbrev pub IsTypedRefusal : MsgType → List TagValue → MsgFault → Type 0
IsTypedRefusal kind fields Memory = ⊤
IsTypedRefusal kind fields (Rejected fault) = IsFirstFault kind fields fault

-- an entry has this side and this account
pub record SaysSide (entry : List TagValue) (side : Side) (account : AccountId) : Type 0 where
  pub side_is : number_at SIDE entry ≡ side_number side
  pub account_is : first_value ACCOUNT entry ≡ Some account.name

-- a report's one side is this, and its account this
pub record HasSide (fields : List TagValue) (side : Side) (account : AccountId) : Type 0 where
  pub entry : List TagValue
  pub one : entries_of kind.TradeCaptureReport NO_SIDES fields ≡ entry ∷ []
  pub says : SaysSide entry side account

-- the id of a give-up's one report
pub record HasExec (fields : List TagValue) (id : List ℕ) : Type 0 where
  pub entry : List TagValue
  pub one : entries_of kind.AllocationInstruction NO_EXECS fields ≡ entry ∷ []
  pub says : first_value EXEC_ID entry ≡ Some id
