-- Runs: the course of steps from an empty book, and the entry to blame for a stale commit.
use Rattle.std.specs.Prelude.{◌≡◌, ℕ, ◌++◌, List, [], ◌∷◌, take, Option, Some, None, slice_get}
use Rattle.std.specs.List.{filter_map}
use Rattle.std.specs.Option.{option_and_then}
use Rattle.gu_terms.specs.declared.receipt.Receipt.{Receipt}
use Rattle.gu_ref.specs.Tables.{Tables}
use Rattle.gu_world.specs.Steps.{Look, State, LeadsTo, first_touch_above, look_of, start}
use Rattle.gu_world.specs.declared.outcome.Outcome.{Outcome}
use Rattle.gu_world.specs.declared.outcome.Outcome.TheVariants.{Asked, Stale, Swept}
use Rattle.gu_world.specs.declared.step.Step.{Step}
use Rattle.gu_world.specs.declared.step.Step.TheVariants.{Commit}

-- these steps lead from one state to another, with one outcome each
abbrev pub IsRun : State → List Step → List Outcome → State → Type 0
IsRun old [] [] new = new ≡ old
IsRun old [] (outcome ∷ outcomes) new = ⊥
IsRun old (step ∷ steps) [] new = ⊥
IsRun old (step ∷ steps) (outcome ∷ outcomes) new = (mid : State) × LeadsTo old step outcome mid × IsRun mid steps outcomes new

-- the course of some steps: a state, and their outcomes
pub record Course : Type 0 where
  pub state : State
  pub outcomes : List Outcome

-- the receipt in an outcome, if its step entered something
abbrev pub receipt_of : Outcome → Option Receipt
receipt_of (Asked receipt) = Some receipt
receipt_of (Swept receipt) = Some receipt
receipt_of _ = None

-- the receipts in outcomes, in order
abbrev pub receipts_in : List Outcome → List Receipt
receipts_in outcomes = filter_map receipt_of outcomes

-- the course before the first step
abbrev pub beginning : Tables → Course
beginning reference = record { state = start reference; outcomes = [] }

-- these steps lead to this course
abbrev pub IsRunOf : Tables → List Step → Course → Type 0
IsRunOf reference steps course = IsRun (start reference) steps course.outcomes course.state

-- some steps lead to this course
pub record IsReached (course : Course) : Type 0 where
  pub steps : List Step
  pub run : IsRunOf course.state.book.reference steps course

-- one more step leads from one course to another, with one more outcome
pub record GoesOn (old : Course) (step : Step) (new : Course) : Type 0 where
  pub outcome : Outcome
  pub leads : LeadsTo old.state step outcome new.state
  pub outcomes : new.outcomes ≡ old.outcomes ++ outcome ∷ []

-- the entry to blame for an outcome: for a stale commit, the first that touched its group after those that its worker saw; else none
abbrev pub blamed : State → Step → Outcome → Option ℕ
blamed before (Commit worker) (Stale seen now) = option_and_then (λ (look : Look). first_touch_above before.book.history look.group look.seen) (look_of before worker)
blamed before step outcome = None

-- the entry to blame for the outcome of a step that follows these, in some run of them
pub record IsBlamed (reference : Tables) (steps : List Step) (step : Step) (culprit : Option ℕ) : Type 0 where
  pub before : Course
  pub after : Course
  pub run : IsRunOf reference steps before
  pub goes_on : GoesOn before step after
  pub culprit_is : culprit ≡ blamed before.state step goes_on.outcome

-- the same; after the last step, there is none
abbrev pub IsBlamedAt : Tables → List Step → Option Step → Option ℕ → Type 0
IsBlamedAt reference steps None culprit = culprit ≡ None
IsBlamedAt reference steps (Some step) culprit = IsBlamed reference steps step culprit

-- the entry to blame for the outcome of the step at an index, counted from 0, in some run of the steps up to it
abbrev pub IsCulprit : Tables → List Step → ℕ → Option ℕ → Type 0
IsCulprit reference steps at culprit = IsBlamedAt reference (take at steps) (slice_get steps at) culprit
