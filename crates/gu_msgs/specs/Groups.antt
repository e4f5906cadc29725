-- Repeating groups: a counter followed by entries (FIX tagvalue encoding, Repeating groups).
use Rattle.std.specs.Prelude.{◌==◌, ℕ, Bool, List, [], ◌∷◌, if◌then◌else◌}
use Rattle.gu_fix.specs.TagValue.{TagValue}
use Rattle.gu_msgs.specs.Rows.{tag_of, is_listed}
use Rattle.gu_msgs.specs.Tables.{entry_rows, outer_rows}
use Rattle.gu_msgs.specs.Values.{behind}
use Rattle.gu_msgs.specs.declared.msg_type.MsgType.{MsgType}
use Rattle.gu_msgs.specs.declared.row.Row.{Row}

-- the fields before the first whose tag passes the test, or all if there is none
abbrev pub up_to : (ℕ → Bool) → List TagValue → List TagValue
up_to is_such [] = []
up_to is_such (field ∷ fields) = if is_such field.tag then [] else field ∷ up_to is_such fields

-- a group: the fields after its counter, up to the next tag that is read at the outer level
abbrev pub group_of : MsgType → ℕ → List TagValue → List TagValue
group_of kind counter fields = up_to (is_listed (outer_rows kind)) (behind counter fields)

-- its entries: each field with the first tag begins one, which reaches to the next such field; fields before the first of them are in no
-- entry
abbrev pub entries_by : ℕ → List TagValue → List (List TagValue)
entries_by first [] = []
entries_by first (field ∷ fields) =
    if field.tag == first then (field ∷ up_to (λ tag. tag == first) fields) ∷ entries_by first fields
    else entries_by first fields

-- the entries that begin with the tag of the first of these rows; none if there are no rows
abbrev pub entries_begun : List Row → List TagValue → List (List TagValue)
entries_begun [] fields = []
entries_begun (row ∷ rows) fields = entries_by (tag_of row) fields

-- the entries of the group with this counter
abbrev pub entries_of : MsgType → ℕ → List TagValue → List (List TagValue)
entries_of kind counter fields = entries_begun (entry_rows counter) (group_of kind counter fields)
