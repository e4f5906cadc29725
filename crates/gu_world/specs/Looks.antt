-- Machinery: each worker's work in hand, and the look that it represents.
use Rattle.std.specs.Prelude.{◌≡◌, ℕ, ◌≤◌, ◌⊎◌, true, List, [], ◌∷◌, ◌++◌, length, map, replicate, take, Option, Some, None, slice_index_or}
use Rattle.std.specs.Option.{option_map}
use Rattle.gu_terms.specs.declared.entry.Entry.{Entry}
use Rattle.gu_ref.specs.Reference.{is_group}
use Rattle.gu_view.specs.View.{GroupView, IsNested}
use Rattle.gu_rules.specs.BookState.{BookState}
use Rattle.gu_rules.specs.Views.{group_view}
use Rattle.gu_book.specs.Commits.{sweep_of}
use Rattle.gu_world.specs.Runs.{IsReached}
use Rattle.gu_world.specs.Steps.{Look, State}
use Rattle.gu_world.specs.Outcomes.{AreNumbered, outcome_in}
use Rattle.gu_world.specs.declared.outcomes.KeptOutcome.{KeptOutcome}
use Rattle.gu_world.specs.declared.held.Held.{Held}
use Rattle.gu_world.specs.declared.held.Work.{Work}
use Rattle.gu_world.specs.declared.held.Work.TheVariants.{Looking, Ready}

-- the view that a worker has
abbrev pub view_in : Work → GroupView
view_in (Looking view) = view
view_in (Ready proposal) = proposal.view

-- the view of a proposal
abbrev pub view_ready : Work → Option GroupView
view_ready (Looking view) = None
view_ready (Ready proposal) = Some proposal.view

-- the view that a worker has a proposal for, if it has one
abbrev pub view_proposed : Option Held → Option GroupView
view_proposed None = None
view_proposed (Some held) = view_ready held.work

-- the look that a view or a proposal represents
abbrev pub look_by : ℕ → Work → Look
look_by seen (Looking view) = record { group = view.group; seen = seen; proposal = None }
look_by seen (Ready proposal) = record { group = proposal.view.group; seen = seen; proposal = Some (sweep_of proposal) }

abbrev pub look_in : Held → Look
look_in held = look_by held.seen held.work

-- the looks of all workers; none of the 64 has one if no slots are allocated yet
abbrev pub looks_in : List (Option Held) → List (Option Look)
looks_in [] = replicate 64 None
looks_in (slot ∷ slots) = map (option_map look_in) (slot ∷ slots)

-- a book and each worker's work in hand, as a state
abbrev pub state_in : BookState → List (Option Held) → State
state_in book slots = record { book = book; looks = looks_in slots }

-- slots are allocated for all 64 workers, or for none
abbrev pub AreMade : List (Option Held) → Type 0
AreMade slots = (slots ≡ []) ⊎ (length slots ≡ 64)

-- a worker's work is true: its group is in the reference, and its view is the one after the entries that the worker saw, and is nested
pub record IsTrueLook (book : BookState) (held : Held) : Type 0 where
  pub known : is_group book.reference (view_in held.work).group ≡ true
  pub seen : held.seen ≤ length book.history
  pub view : view_in held.work ≡ group_view book.reference (take held.seen book.history) (view_in held.work).group
  pub nested : IsNested (view_in held.work)

-- this holds for each worker
abbrev pub AreTrue : BookState → List (Option Held) → Type 0
AreTrue book slots = (worker : ℕ) (held : Held) → slice_index_or slots worker None ≡ Some held → IsTrueLook book held

-- each worker's view is nested
abbrev pub AreNested : List (Option Held) → Type 0
AreNested slots = (worker : ℕ) (held : Held) → slice_index_or slots worker None ≡ Some held → IsNested (view_in held.work)

-- a book has kept its reference and its entries, and may have more entries
pub record Grows (old new : BookState) : Type 0 where
  pub later : List Entry
  pub reference : new.reference ≡ old.reference
  pub history : new.history ≡ old.history ++ later

-- a course as stored: true looks, numbers of entries that exist, and some steps that lead there
pub record IsKeptCourse (book : BookState) (slots : List (Option Held)) (outcomes : List KeptOutcome) : Type 0 where
  pub trues : AreTrue book slots
  pub numbered : AreNumbered (length book.history) outcomes
  pub reached : IsReached (record { state = state_in book slots; outcomes = map (outcome_in book.history) outcomes })
