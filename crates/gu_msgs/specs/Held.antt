-- Machinery: facts about a message whose shape and values are sound. No other crate names this file.
use Rattle.std.specs.Prelude.{◌≡◌, ◌≢◌, List, [], length, None, Some}
use Rattle.std.specs.List.{AllByRecursion}
use Rattle.gu_fix.specs.TagValue.{TagValue}
use Rattle.gu_fix.specs.declared.tag.TheConstants.{MSG_TYPE}
use Rattle.gu_msgs.specs.Agreement.{number_at}
use Rattle.gu_msgs.specs.Groups.{entries_of}
use Rattle.gu_msgs.specs.Items.{AreSound, message_items}
use Rattle.gu_msgs.specs.Kinds.{IsSound}
use Rattle.gu_msgs.specs.MsgTypes.{code_of}
use Rattle.gu_msgs.specs.Rows.{tag_of}
use Rattle.gu_msgs.specs.Shape.{shape_fault}
use Rattle.gu_msgs.specs.Tables.{body_rows, entry_rows}
use Rattle.gu_msgs.specs.Values.{Holds, MayHold, first_value}
use Rattle.gu_msgs.specs.declared.msg_type.MsgType.{MsgType}
use Rattle.gu_msgs.specs.declared.row.Row.{Row}
use Rattle.gu_msgs.specs.declared.row.Row.TheVariants.{Required, Optional}

-- a row's tag is present if it must be, and its value is allowed
abbrev pub IsHeld : List TagValue → Row → Type 0
IsHeld fields (Required tag kind) = Holds tag (IsSound kind) fields
IsHeld fields (Optional tag kind) = MayHold tag (IsSound kind) fields

-- this holds for each row of a table
abbrev pub AreHeld : List Row → List TagValue → Type 0
AreHeld rows fields = AllByRecursion (IsHeld fields) rows

-- the group that a row counts has as many entries as the counter says, and each is sound
pub record HasGroup (kind : MsgType) (fields : List TagValue) (row : Row) : Type 0 where
  pub counted : entry_rows (tag_of row) ≢ [] → number_at (tag_of row) fields ≡ length (entries_of kind (tag_of row) fields)
  pub each : AllByRecursion (AreHeld (entry_rows (tag_of row))) (entries_of kind (tag_of row) fields)

-- this holds for each group of a message
abbrev pub HasGroups : MsgType → List TagValue → Type 0
HasGroups kind fields = AllByRecursion (HasGroup kind fields) (body_rows kind)

-- a message of this type whose shape and values are sound
pub record IsWellMade (kind : MsgType) (fields : List TagValue) : Type 0 where
  pub code : first_value MSG_TYPE fields ≡ Some (code_of kind)
  pub shape : shape_fault kind fields ≡ None
  pub values : AreSound (message_items kind fields)
  pub held : AreHeld (body_rows kind) fields
  pub groups : HasGroups kind fields
