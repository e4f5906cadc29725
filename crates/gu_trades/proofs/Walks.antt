-- Walks back along the positions of a firm's reports with an id, or of the reports with a match id.
use Rattle.std.proofs.Common.{◌≡◌, ◌∙◌, ℕ, ◌-◌, ◌<◌, ◌≤◌, ap, map, length, List, true}
use Rattle.std.specs.Prelude.{slice_index}
use Rattle.std.proofs.lemmas.Bool.{eqb-true}
use Rattle.std.proofs.lemmas.List.{length-map}
use Rattle.gu_terms.specs.declared.firm.FirmId.{FirmId}
use Rattle.gu_terms.specs.declared.id.Id.{Id}
use Rattle.gu_terms.specs.declared.report.Report.{Report}
use Rattle.gu_terms.specs.Same.{same_id}
use Rattle.gu_trades.specs.declared.trades.Trades.TheInside.{Inside}
use Rattle.gu_trades.specs.Kept.{IsKept, id_number, is_by_at, is_with_at, match_number}
use Rattle.gu_trades.specs.Numbered.{has_number, last_before}
use Rattle.gu_trades.specs.Reports.{is_by}
use Rattle.gu_trades.proofs.LastPlaces.{has-own, walk-from, walk-on}
use Rattle.gu_trades.proofs.ReportPlaces.{by-agree, with-agree}

module _ (kept : Inside) (reports : List Report) (is_kept : IsKept kept) (view : kept.reports ≡ reports) (firm : FirmId) (id : Id) where
  abbrev own_of : Report → ℕ
  own_of r = id_number kept.seed r.firm r.id

  numbers_by : kept.by_id.numbers ≡ map own_of reports
  numbers_by = is_kept.named ∙ ap (map own_of) view

  -- from the last position with the hash
  pub by-start : (number from : ℕ) → number ≡ id_number kept.seed firm id → from ≡ last_before (has_number kept.by_id.numbers number) (length kept.by_id.numbers)
      → (last_before (is_by_at reports firm id) (length reports) ≡ last_before (is_by_at reports firm id) from) × (from ≤ length reports)
      × (0 < from → slice_index kept.by_id.numbers (from - 1) ≡ id_number kept.seed firm id)
  by-start number from of is =
      walk-from (is_by firm id) own_of (id_number kept.seed firm id) (by-agree kept.seed firm id) reports kept.by_id.numbers numbers_by (length reports) from
      (is ∙ ap (λ n. last_before (has_number kept.by_id.numbers n) (length kept.by_id.numbers)) of
      ∙ ap (last_before (has_number kept.by_id.numbers (id_number kept.seed firm id))) (ap length numbers_by ∙ length-map reports own_of))

  -- continuing from a position
  pub by-on : (here next : ℕ) → 0 < here → slice_index kept.by_id.numbers (here - 1) ≡ id_number kept.seed firm id
      → next ≡ last_before (has_number kept.by_id.numbers (slice_index kept.by_id.numbers (here - 1))) (here - 1)
      → (last_before (is_by_at reports firm id) (here - 1) ≡ last_before (is_by_at reports firm id) next) × (next < here)
      × (0 < next → slice_index kept.by_id.numbers (next - 1) ≡ id_number kept.seed firm id)
  by-on = walk-on (is_by firm id) own_of (id_number kept.seed firm id) (by-agree kept.seed firm id) reports kept.by_id.numbers numbers_by

module _ (kept : Inside) (reports : List Report) (is_kept : IsKept kept) (view : kept.reports ≡ reports) (match_id : Id) where
  abbrev match_of : Report → ℕ
  match_of r = match_number kept.seed r.match_id

  numbers_with : kept.by_match.numbers ≡ map match_of reports
  numbers_with = is_kept.matched ∙ ap (map match_of) view

  -- from the last position with the hash
  pub with-start : (number from : ℕ) → number ≡ match_number kept.seed match_id → from ≡ last_before (has_number kept.by_match.numbers number) (length kept.by_match.numbers)
      → (last_before (is_with_at reports match_id) (length reports) ≡ last_before (is_with_at reports match_id) from) × (from ≤ length reports)
      × (0 < from → slice_index kept.by_match.numbers (from - 1) ≡ match_number kept.seed match_id)
  with-start number from of is =
      walk-from (λ (r : Report). same_id r.match_id match_id) match_of (match_number kept.seed match_id) (with-agree kept.seed match_id) reports kept.by_match.numbers numbers_with (length reports) from
      (is ∙ ap (λ n. last_before (has_number kept.by_match.numbers n) (length kept.by_match.numbers)) of
      ∙ ap (last_before (has_number kept.by_match.numbers (match_number kept.seed match_id))) (ap length numbers_with ∙ length-map reports match_of))

  -- continuing from a position
  pub with-on : (here next : ℕ) → 0 < here → slice_index kept.by_match.numbers (here - 1) ≡ match_number kept.seed match_id
      → next ≡ last_before (has_number kept.by_match.numbers (slice_index kept.by_match.numbers (here - 1))) (here - 1)
      → (last_before (is_with_at reports match_id) (here - 1) ≡ last_before (is_with_at reports match_id) next) × (next < here)
      × (0 < next → slice_index kept.by_match.numbers (next - 1) ≡ match_number kept.seed match_id)
  with-on = walk-on (λ (r : Report). same_id r.match_id match_id) match_of (match_number kept.seed match_id) (with-agree kept.seed match_id) reports kept.by_match.numbers numbers_with

  -- a position with the match id has its hash
  pub with-number : (place : ℕ) → is_with_at reports match_id place ≡ true → slice_index kept.by_match.numbers place ≡ match_number kept.seed match_id
  with-number place own =
      eqb-true (slice_index kept.by_match.numbers place) (match_number kept.seed match_id)
      (has-own (λ (r : Report). same_id r.match_id match_id) match_of (match_number kept.seed match_id) (with-agree kept.seed match_id) reports kept.by_match.numbers numbers_with place own)
