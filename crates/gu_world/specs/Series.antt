-- Machinery: outcomes of consecutive steps, as stored.
use Rattle.std.specs.Prelude.{ℕ, ◌+◌, ◌^◌, ◌<◌, List, [], ◌∷◌, map}
use Rattle.std.specs.List.{flat_map, range_with_len}
use Rattle.gu_world.specs.declared.outcomes.KeptOutcome.{KeptOutcome}
use Rattle.gu_world.specs.declared.outcomes.KeptOutcome.TheVariants as kept
use Rattle.gu_world.specs.declared.series.Series.{Series}
use Rattle.gu_world.specs.declared.series.Series.TheVariants as row

-- the outcomes that a series stands for: consecutive numbers for commands entered one after the other, or the outcome of one other step
abbrev pub outcomes_of : Series → List KeptOutcome
outcomes_of (row.Asked first more) = map kept.Asked (range_with_len first (more + 1))
outcomes_of row.Full = kept.Full ∷ []
outcomes_of (row.Seen version) = kept.Seen version ∷ []
outcomes_of row.NoGroup = kept.NoGroup ∷ []
outcomes_of (row.Proposed lots) = kept.Proposed lots ∷ []
outcomes_of (row.Swept n) = kept.Swept n ∷ []
outcomes_of (row.Stale seen now) = kept.Stale seen now ∷ []
outcomes_of row.Foreign = kept.Foreign ∷ []
outcomes_of row.Nothing = kept.Nothing ∷ []

-- the outcomes that several series stand for, in order
abbrev pub all_outcomes : List Series → List KeptOutcome
all_outcomes list = flat_map outcomes_of list

-- entry numbers and versions in an outcome are below 2^32, since they are stored in 32 bits
abbrev pub IsShort : KeptOutcome → Type 0
IsShort (kept.Asked n) = n < 2 ^ 32
IsShort (kept.Seen version) = version < 2 ^ 32
IsShort (kept.Swept n) = n < 2 ^ 32
IsShort (kept.Stale seen now) = (seen < 2 ^ 32) × (now < 2 ^ 32)
IsShort other = Unit {0}

-- the stored outcomes, and how many more fit
pub record Keeping : Type 0 where
  pub items : List KeptOutcome
  pub room : ℕ
