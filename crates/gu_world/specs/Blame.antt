-- Machinery: what is known while the entry to blame is sought.
use Rattle.std.specs.Prelude.{◌≡◌, ℕ, ◌-◌, Bool, true, false, List, length, map, slice_get, Option, None}
use Rattle.std.specs.Option.{option_and_then, option_map_or}
use Rattle.gu_terms.specs.Same.{same_group}
use Rattle.gu_terms.specs.declared.entry.Entry.{Entry}
use Rattle.gu_terms.specs.declared.group.Group.{Group}
use Rattle.gu_terms.specs.declared.offer.Offer.{Offer}
use Rattle.gu_rules.specs.Offers.{offers_of}
use Rattle.gu_world.specs.Runs.{Course, GoesOn, blamed}
use Rattle.gu_world.specs.Steps.{Look, State, first_touch_above, look_of}
use Rattle.gu_world.specs.declared.outcome.Outcome.{Outcome}
use Rattle.gu_world.specs.declared.outcome.Outcome.TheVariants.{Stale}
use Rattle.gu_world.specs.declared.step.Step.{Step}
use Rattle.gu_world.specs.declared.step.Step.TheVariants.{Commit}

-- for each offer, in the order of offer numbers, whether it is in a group
abbrev pub own_of : List Entry → Group → List Bool
own_of history group = map (λ (o : Offer). same_group o.group group) (offers_of history)

-- a step leads from one course to another, and this entry is to blame for its outcome
pub record IsBlamedFor (old : Course) (step : Step) (new : Course) (culprit : Option ℕ) : Type 0 where
  pub goes_on : GoesOn old step new
  pub culprit_is : culprit ≡ blamed old.state step goes_on.outcome

-- the first entry that touched the group of a worker's look after those that the worker saw, if the step is its commit
abbrev pub first_after : State → Step → Option ℕ
first_after before (Commit worker) = option_and_then (λ (look : Look). first_touch_above before.book.history look.group look.seen) (look_of before worker)
first_after before step = None

-- an outcome is a stale commit
abbrev pub is_stale : Outcome → Bool
is_stale (Stale seen now) = true
is_stale outcome = false

-- the last of these outcomes is a stale commit
abbrev pub ends_stale : List Outcome → Bool
ends_stale outcomes = option_map_or is_stale (slice_get outcomes (length outcomes - 1)) false
