-- Sweeps at a desk: what the receipt of a committed sweep means, and what a refusal means.
use Rattle.std.specs.Prelude.{◌≡◌, ◌≢◌, ℕ, ◌≤◌, ◌++◌, ◌∷◌, [], List, false, length}
use mathlib.Core.List.{IsPrefix}
use Rattle.gu_terms.specs.declared.entry.Entry.{Entry}
use Rattle.gu_terms.specs.declared.entry.Entry.TheVariants.{Swept}
use Rattle.gu_terms.specs.declared.entry.SweepEntry.{SweepEntry}
use Rattle.gu_terms.specs.declared.group.Group.{Group}
use Rattle.gu_ref.specs.Reference.{is_group}
use Rattle.gu_ref.specs.Tables.{Tables}
use Rattle.gu_view.specs.View.{GroupView}
use Rattle.gu_rules.specs.Versions.{version_of}
use Rattle.gu_rules.specs.Views.{group_view}
use Rattle.gu_desk.specs.Holds.{Looks, Sees}
use Rattle.gu_desk.specs.Seats.{SeatState}
use Rattle.gu_desk.specs.declared.error.SweepError.{SweepError}
use Rattle.gu_desk.specs.declared.error.SweepError.TheVariants.{Memory, UnknownGroup, Full, Stale}

-- the entry is a sweep of this group
pub record Sweeps (group : Group) (entry : Entry) : Type 0 where
  pub sweep : SweepEntry
  pub entry_is : entry ≡ Swept sweep
  pub group_is : sweep.group ≡ group

-- the view is its group's, by this history without its last entry
pub record IsViewBefore (reference : Tables) (history : List Entry) (view : GroupView) : Type 0 where
  pub before : List Entry
  pub last : Entry
  pub history_is : history ≡ before ++ last ∷ []
  pub view_is : view ≡ group_view reference before view.group

-- entries touched the group after the seat saw it: its version then, and its version as the seat now sees it
pub record IsTouched (reference : Tables) (old : SeatState) (group : Group) (seen now : ℕ) (new : SeatState) : Type 0 where
  pub sees : Sees reference old new
  pub before : List Entry
  pub begins : IsPrefix old.front before
  pub goes_on : IsPrefix before new.front
  pub seen_is : seen ≡ version_of before group
  pub now_is : now ≡ version_of new.front group
  pub differs : seen ≢ now

-- why a group isn't swept, as the seat then sees: the group is unknown, the book is full, the group was touched; or an allocation failed
abbrev pub IsSweepRefused : Tables → SeatState → Group → SweepError → SeatState → Type 0
IsSweepRefused reference old group Memory new = Looks reference old new
IsSweepRefused reference old group UnknownGroup new = (is_group reference group ≡ false) × Looks reference old new
IsSweepRefused reference old group Full new = Sees reference old new × (1000000 ≤ length new.front)
IsSweepRefused reference old group (Stale seen now) new = IsTouched reference old group seen now new
