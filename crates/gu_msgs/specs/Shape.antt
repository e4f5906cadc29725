-- The shape of a message: repeated tags, missing tags, and groups that differ from their counters.
use Rattle.std.specs.Prelude.{ℕ, Bool, not, ◌&&◌, ◌==◌, List, [], ◌∷◌, ◌++◌, length, Option, None, Some, if◌then◌else◌, ◌≡◌, ◌<◌, true, take, slice_get, MatchOption}
use Rattle.std.specs.Option.{option_map, option_or}
use Rattle.std.specs.Str.Parse.{digits_value}
use Rattle.gu_fix.specs.TagValue.{TagValue, tag_value}
use Rattle.gu_msgs.specs.Groups.{entries_of}
use Rattle.gu_msgs.specs.Rows.{tag_of, is_required, is_listed}
use Rattle.gu_msgs.specs.Tables.{body_rows, entry_rows, outer_rows}
use Rattle.gu_msgs.specs.Values.{first_value, is_numeral, stands}
use Rattle.gu_msgs.specs.declared.fault.Fault.{Fault}
use Rattle.gu_msgs.specs.declared.msg_type.MsgType.{MsgType}
use Rattle.gu_msgs.specs.declared.reject_reason.SessionRejectReason.{SessionRejectReason}
use Rattle.gu_msgs.specs.declared.reject_reason.SessionRejectReason.TheVariants.{RequiredTagMissing, IncorrectDataFormat, TagAppearsMoreThanOnce, IncorrectNumInGroupCount}
use Rattle.gu_msgs.specs.declared.row.Row.{Row}

-- a fault of this tag
abbrev pub fault_at : SessionRejectReason → ℕ → Fault
fault_at reason tag = record { tag = tag; reason = reason }

-- a field repeats a tag of these rows: a field before it has it too
abbrev pub is_second : List Row → List TagValue → TagValue → Bool
is_second rows before field = is_listed rows field.tag && stands field.tag before

-- the tag of the first such field after these
abbrev pub repeated_after : List Row → List TagValue → List TagValue → Option ℕ
repeated_after rows before [] = None
repeated_after rows before (field ∷ fields) =
    if is_second rows before field then Some field.tag else repeated_after rows (before ++ field ∷ []) fields

-- the tag of the leftmost field that repeats a tag of these rows
abbrev pub repeated : List Row → List TagValue → Option ℕ
repeated rows fields = repeated_after rows [] fields

-- the field at this index repeats a tag of these rows
abbrev pub StandsAgain : List Row → List TagValue → ℕ → Type 0
StandsAgain rows fields place = MatchOption (slice_get fields place) ⊥ (λ field. is_second rows (take place fields) field ≡ true)

-- this tag is repeated at an index, and no tag of these rows is at an earlier one
pub record StandsAgainFirst (rows : List Row) (fields : List TagValue) (tag : ℕ) : Type 0 where
  pub place : ℕ
  pub value : List ℕ
  pub at : slice_get fields place ≡ Some (tag_value tag value)
  pub again : StandsAgain rows fields place
  pub first : (earlier : ℕ) → earlier < place → ¬ StandsAgain rows fields earlier

-- the first required tag of these rows that is missing
abbrev pub missing : List Row → List TagValue → Option ℕ
missing [] fields = None
missing (row ∷ rows) fields = if is_required row && not (stands (tag_of row) fields) then Some (tag_of row) else missing rows fields

-- the first fault of these rows: a repeated tag comes before a missing one
abbrev pub tags_fault : List Row → List TagValue → Option Fault
tags_fault rows fields =
    option_or (option_map (fault_at TagAppearsMoreThanOnce) (repeated rows fields))
    (option_map (fault_at RequiredTagMissing) (missing rows fields))

-- a counter's fault: its text isn't a number, or isn't the number of entries
abbrev pub count_fault : ℕ → List ℕ → ℕ → Option Fault
count_fault counter text entries =
    if not (is_numeral text) then Some (fault_at IncorrectDataFormat counter)
    else (if digits_value 10 text == entries then None else Some (fault_at IncorrectNumInGroupCount counter))

-- the first fault of entries, each tested in full before the next
abbrev pub entries_fault : List Row → List (List TagValue) → Option Fault
entries_fault rows [] = None
entries_fault rows (entry ∷ entries) = option_or (tags_fault rows entry) (entries_fault rows entries)

-- the first fault of a group with these entries: the counter's comes before theirs; a tag without rows counts nothing
abbrev pub counted_fault : List Row → ℕ → Option (List ℕ) → List (List TagValue) → Option Fault
counted_fault [] counter text entries = None
counted_fault (row ∷ rows) counter None entries = None
counted_fault (row ∷ rows) counter (Some text) entries =
    option_or (count_fault counter text (length entries)) (entries_fault (row ∷ rows) entries)

-- the first fault of the group with this counter
abbrev pub group_fault : MsgType → List TagValue → ℕ → Option Fault
group_fault kind fields counter = counted_fault (entry_rows counter) counter (first_value counter fields) (entries_of kind counter fields)

-- the first fault of the groups with counters among these rows, in order
abbrev pub groups_fault : MsgType → List TagValue → List Row → Option Fault
groups_fault kind fields [] = None
groups_fault kind fields (row ∷ rows) = option_or (group_fault kind fields (tag_of row)) (groups_fault kind fields rows)

-- the first fault of a message's shape: its outer tags, then its groups
abbrev pub shape_fault : MsgType → List TagValue → Option Fault
shape_fault kind fields = option_or (tags_fault (outer_rows kind) fields) (groups_fault kind fields (body_rows kind))
