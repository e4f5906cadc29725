-- The values of a message, in the order in which they are tested, and the first that isn't allowed.
use Rattle.std.specs.Prelude.{◌≡◌, ℕ, List, ◌∷◌, ◌++◌, map, Option, MatchOption, ⊤}
use Rattle.std.specs.List.{AllByRecursion, flat_map}
use Rattle.gu_fix.specs.TagValue.{TagValue}
use Rattle.gu_msgs.specs.Groups.{entries_of}
use Rattle.gu_msgs.specs.Kinds.{IsAtFault, IsSound}
use Rattle.gu_msgs.specs.Rows.{kind_of, tag_of}
use Rattle.gu_msgs.specs.Tables.{entry_rows, outer_rows}
use Rattle.gu_msgs.specs.Values.{first_value}
use Rattle.gu_msgs.specs.declared.fault.Fault.{Fault}
use Rattle.gu_msgs.specs.declared.msg_type.MsgType.{MsgType}
use Rattle.gu_msgs.specs.declared.reject_reason.SessionRejectReason.{SessionRejectReason}
use Rattle.gu_msgs.specs.declared.row.Kind.{Kind}
use Rattle.gu_msgs.specs.declared.row.Row.{Row}

-- a value to test: its tag, its kind, and its text if the tag is present
pub record Item : Type 0 where
  pub tag : ℕ
  pub kind : Kind
  pub text : Option (List ℕ)

-- the value of a row's tag
abbrev pub item_of : List TagValue → Row → Item
item_of fields row = record { tag = tag_of row; kind = kind_of row; text = first_value (tag_of row) fields }

-- the values of a table's tags, in the table's order
abbrev pub items_of : List Row → List TagValue → List Item
items_of rows fields = map (item_of fields) rows

-- an outer tag's value, followed, if it counts a group, by the values in the group's entries
abbrev pub row_items : MsgType → List TagValue → Row → List Item
row_items kind fields row = item_of fields row ∷ flat_map (items_of (entry_rows (tag_of row))) (entries_of kind (tag_of row) fields)

-- all values of a message: the header's, followed by the type's own
abbrev pub message_items : MsgType → List TagValue → List Item
message_items kind fields = flat_map (row_items kind fields) (outer_rows kind)

-- a value is absent or allowed
abbrev pub IsSoundItem : Item → Type 0
IsSoundItem item = MatchOption item.text ⊤ (IsSound item.kind)

-- a value isn't allowed, for this reason
abbrev pub IsItemAtFault : Item → SessionRejectReason → Type 0
IsItemAtFault item reason = MatchOption item.text ⊥ (λ text. IsAtFault item.kind text reason)

-- each value is absent or allowed
abbrev pub AreSound : List Item → Type 0
AreSound items = AllByRecursion IsSoundItem items

-- the fault of the first value that isn't allowed: its tag and its reason
pub record IsFirstAtFault (items : List Item) (fault : Fault) : Type 0 where
  pub before : List Item
  pub item : Item
  pub behind : List Item
  pub parts : items ≡ before ++ item ∷ behind
  pub sound : AreSound before
  pub tag_is : fault.tag ≡ item.tag
  pub at_fault : IsItemAtFault item fault.reason
