-- Machinery: how reports are stored: in order, with their positions by firm and id and by match id.
use Rattle.std.specs.Prelude.{◌≡◌, ℕ, ◌-◌, ◌∷◌, [], Bool, false, List, length, map, slice_get}
use Rattle.std.specs.Option.{option_map_or}
use Rattle.gu_terms.specs.Padded.{padded}
use Rattle.gu_terms.specs.Same.{same_id}
use Rattle.gu_terms.specs.declared.firm.FirmId.{FirmId}
use Rattle.gu_terms.specs.declared.id.Id.{Id}
use Rattle.gu_terms.specs.declared.report.Report.{Report}
use Rattle.gu_terms.specs.declared.seed.Seed.{Seed}
use Rattle.gu_trades.specs.declared.trades.Trades.TheInside.{Inside}
use Rattle.gu_trades.specs.Numbered.{last_before, number_of}
use Rattle.gu_trades.specs.Reports.{is_by}
use Rattle.gu_trades.specs.Rules.{IsSound}

-- the stored hash of a firm and an id
abbrev pub id_number : Seed → FirmId → Id → ℕ
id_number seed firm id = number_of seed (padded 12 firm.name ∷ id ∷ [])

-- the stored hash of a match id
abbrev pub match_number : Seed → Id → ℕ
match_number seed match_id = number_of seed (match_id ∷ [])

-- the report at an index is this firm's with this id
abbrev pub is_by_at : List Report → FirmId → Id → ℕ → Bool
is_by_at reports firm id place = option_map_or (is_by firm id) (slice_get reports place) false

-- the report at an index has this match id
abbrev pub is_with_at : List Report → Id → ℕ → Bool
is_with_at reports match_id place = option_map_or (λ (r : Report). same_id r.match_id match_id) (slice_get reports place) false

-- these are the positions of the last two reports with this match id, counted from 1, the later first; 0 if there is none
pub record ArePlaced (reports : List Report) (match_id : Id) (last first : ℕ) : Type 0 where
  pub last_is : last ≡ last_before (is_with_at reports match_id) (length reports)
  pub first_is : first ≡ last_before (is_with_at reports match_id) (last - 1)

-- each report's hashes are stored at its position, and the rules hold
pub record IsKept (kept : Inside) : Type 0 where
  pub named : kept.by_id.numbers ≡ map (λ (r : Report). id_number kept.seed r.firm r.id) kept.reports
  pub matched : kept.by_match.numbers ≡ map (λ (r : Report). match_number kept.seed r.match_id) kept.reports
  pub sound : IsSound kept.reports
