-- Machinery: outcomes as a world stores them: an entry as its number.
use Rattle.std.specs.Prelude.{ℕ, ◌≤◌, All, List}
use Rattle.std.specs.Option.{option_map_or}
use Rattle.gu_terms.specs.Histories.{entry_at}
use Rattle.gu_terms.specs.declared.entry.Entry.{Entry}
use Rattle.gu_world.specs.declared.outcome.Outcome.{Outcome}
use Rattle.gu_world.specs.declared.outcome.Outcome.TheVariants.{Asked, Full, Seen, NoGroup, Proposed, Swept, Stale, Foreign, Nothing}
use Rattle.gu_world.specs.declared.outcomes.KeptOutcome.{KeptOutcome}
use Rattle.gu_world.specs.declared.outcomes.KeptOutcome.TheVariants as kept

-- the stored form of an outcome
abbrev pub kept_of : Outcome → KeptOutcome
kept_of (Asked receipt) = kept.Asked receipt.number
kept_of Full = kept.Full
kept_of (Seen version) = kept.Seen version
kept_of NoGroup = kept.NoGroup
kept_of (Proposed lots) = kept.Proposed lots
kept_of (Swept receipt) = kept.Swept receipt.number
kept_of (Stale seen now) = kept.Stale seen now
kept_of Foreign = kept.Foreign
kept_of Nothing = kept.Nothing

-- the outcome stored as this (`Nothing` if its number isn't that of an entry; none such is stored)
abbrev pub outcome_in : List Entry → KeptOutcome → Outcome
outcome_in history (kept.Asked n) = option_map_or (λ (e : Entry). Asked (record { number = n; entry = e })) (entry_at history n) Nothing
outcome_in history kept.Full = Full
outcome_in history (kept.Seen version) = Seen version
outcome_in history kept.NoGroup = NoGroup
outcome_in history (kept.Proposed lots) = Proposed lots
outcome_in history (kept.Swept n) = option_map_or (λ (e : Entry). Swept (record { number = n; entry = e })) (entry_at history n) Nothing
outcome_in history (kept.Stale seen now) = Stale seen now
outcome_in history kept.Foreign = Foreign
outcome_in history kept.Nothing = Nothing

-- a stored number is that of one of the first `count` entries
abbrev pub IsNumbered : ℕ → KeptOutcome → Type 0
IsNumbered count (kept.Asked n) = (1 ≤ n) × (n ≤ count)
IsNumbered count (kept.Swept n) = (1 ≤ n) × (n ≤ count)
IsNumbered count other = Unit {0}

abbrev pub AreNumbered : ℕ → List KeptOutcome → Type 0
AreNumbered count outcomes = All (IsNumbered count) outcomes
