-- Machinery: the first field with each tag of a table. No other crate names this file.
use Rattle.std.specs.Prelude.{◌≡◌, ◌≢◌, ◌<◌, ◌≤◌, ◌⊎◌, ℕ, zero, suc, Bool, true, false, List, [], Option, None, length, drop, slice_get, slice_index, slice_index_or, slice_set}
use Rattle.std.specs.Option.{option_map}
use Rattle.gu_fix.specs.TagValue.{TagValue}
use Rattle.gu_msgs.specs.Rows.{is_listed, tag_of}
use Rattle.gu_msgs.specs.Values.{behind, first_value}
use Rattle.gu_msgs.specs.declared.row.Row.{Row}
use Rattle.gu_msgs.specs.declared.row.Row.TheVariants.{Required}
use Rattle.gu_msgs.specs.declared.row.Kind.TheVariants.{Text}

-- the value of the field with this number; the first field has number 1, and none has number 0
abbrev pub value_numbered : List TagValue → ℕ → Option (List ℕ)
value_numbered fields zero = None
value_numbered fields (suc place) = option_map (λ f. f.value) (slice_get fields place)

-- the fields after the one with this number; none for 0
abbrev pub fields_after : List TagValue → ℕ → List TagValue
fields_after fields zero = []
fields_after fields (suc place) = drop (suc place) fields

-- the number of the first field with a tag; 0 if no field has it
pub record IsStanding (fields : List TagValue) (tag number : ℕ) : Type 0 where
  pub within : number ≤ length fields
  pub first : first_value tag fields ≡ value_numbered fields number
  pub behind : behind tag fields ≡ fields_after fields number

-- the row at an index
abbrev pub row_at : List Row → ℕ → Row
row_at rows i = slice_index_or rows i (Required 0 Text)

-- these are such numbers for the rows of a table
abbrev pub AreStandings : List Row → List TagValue → List ℕ → Type 0
AreStandings rows fields numbers = (i : ℕ) → i < length rows → IsStanding fields (tag_of (row_at rows i)) (slice_index numbers i)

-- no tag has two rows
abbrev pub AreDistinct : List Row → Type 0
AreDistinct rows = (i j : ℕ) → i < length rows → j < length rows → tag_of (row_at rows i) ≡ tag_of (row_at rows j) → i ≡ j

-- a table: no tag has two rows, and there are at most 20
pub record IsTable (rows : List Row) : Type 0 where
  pub distinct : AreDistinct rows
  pub few : length rows ≤ 20

-- the row at this index has this tag
pub record IsRowOf (rows : List Row) (tag place : ℕ) : Type 0 where
  pub within : place < length rows
  pub tagged : tag_of (row_at rows place) ≡ tag

-- a tag of a table, not recorded before, is recorded with a number
pub record IsNoted (rows : List Row) (tag number : ℕ) (old new : List ℕ) : Type 0 where
  pub place : ℕ
  pub row : IsRowOf rows tag place
  pub before : slice_index old place ≡ 0
  pub behind : new ≡ slice_set old place number

-- a tag was recorded before
pub record WasNoted (rows : List Row) (tag : ℕ) (old : List ℕ) : Type 0 where
  pub place : ℕ
  pub row : IsRowOf rows tag place
  pub before : slice_index old place ≢ 0

-- a tag is recorded with a number if a table has it, unless it was recorded before
abbrev pub Notes : Bool → List Row → ℕ → ℕ → List ℕ → List ℕ → Type 0
Notes true rows tag number old new = ((is_listed rows tag ≡ false) × (new ≡ old)) ⊎ IsNoted rows tag number old new
Notes false rows tag number old new = WasNoted rows tag old
