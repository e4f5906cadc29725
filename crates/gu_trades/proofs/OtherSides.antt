-- Whether another report has the same match id, which makes a report a side of a trade.
use Rattle.std.proofs.Common.{◌≡◌, ◌∙◌, sym, ap, ℕ, zero, suc, ◌-◌, ◌<◌, ◌≤◌, ◌==◌, Bool, true, false, not, List, length, inl, inr, arith}
use Rattle.std.proofs.lemmas.Bool.{cases_Bool, cases_eq, cases_lt, eqb-false, eqb-true}
use Rattle.gu_terms.specs.declared.id.Id.{Id}
use Rattle.gu_terms.specs.declared.report.Report.{Report}
use Rattle.gu_terms.specs.Same.{same_id}
use Rattle.gu_trades.specs.Kept.{ArePlaced, is_with_at}
use Rattle.gu_trades.specs.Matching.{is_trade}
use Rattle.gu_trades.specs.Numbered.{last_before}
use Rattle.gu_trades.specs.Reports.{with_match}
use Rattle.gu_trades.specs.Rules.{are_sides}
use Rattle.gu_trades.proofs.LastPlaces.{within-at}
use Rattle.gu_trades.proofs.ReportPlaces.{trade-is}
use Rattle.gu_trades.proofs.Rows.{last_before-le, last_before-passes}

module _ (test : ℕ → Bool) where
  -- a position that passes is at or before the last that does
  pub last_before-above : (bound place : ℕ) → place < bound → test place ≡ true → place < last_before test bound
  last_before-above zero place below passes = absurd (omega arith)
  last_before-above (suc bound) place below passes =
      elim (cases_Bool (test bound)) [
        | inl hit ↦ rw hit below
        | inr miss ↦
            elim (cases_eq place bound) [
              | inl same ↦ let never : true ≡ false = sym passes ∙ ap test same ∙ miss in cc
              | inr other ↦ rw miss (last_before-above bound place (omega arith) passes)
            ]
      ]

  -- if two bounds have the same last position before them, none between them passes
  pub none_between : (bound earlier place : ℕ) → last_before test bound ≡ last_before test earlier → place < bound → earlier ≤ place → test place ≡ true → ⊥
  none_between bound earlier place same below after passes =
      absurd (omega (arith, same, last_before-above bound place below passes, last_before-le test earlier))

  -- if only one position passes from a bound on, so it is from an earlier bound on
  pub alone-on : (place here next : ℕ) → 0 < here → ((other : ℕ) → here ≤ other → test other ≡ true → other ≡ place) → (test (here - 1) ≡ true → here - 1 ≡ place)
      → last_before test (here - 1) ≡ last_before test next → (other : ℕ) → next ≤ other → test other ≡ true → other ≡ place
  alone-on place here next some rest own on other after passes =
      elim (cases_lt other here) [
        | inr beyond ↦ rest other beyond passes
        | inl below ↦
            elim (cases_eq other (here - 1)) [
              | inl same ↦ same ∙ own (sym (ap test same) ∙ passes)
              | inr differ ↦ absurd (none_between (here - 1) next other on (omega arith) after passes)
            ]
      ]

module _ (reports : List Report) (match_id : Id) (last first place : ℕ) (placed : ArePlaced reports match_id last first) (sound : are_sides (with_match match_id reports) ≡ true) where
  abbrev test : ℕ → Bool
  test = is_with_at reports match_id

  -- an earlier position has it too
  earlier_too : (earlier : ℕ) → earlier < last - 1 → test earlier ≡ true → is_trade (with_match match_id reports) ≡ true
  earlier_too earlier below passes =
      elim (cases_Bool (first == 0)) [
        | inl none ↦ absurd (omega (arith, placed.first_is, eqb-true first 0 none, last_before-above test (last - 1) earlier below passes))
        | inr some ↦ sym (trade-is reports match_id last first placed sound) ∙ ap not some
      ]

  -- if two positions have it, they are sides of a trade
  pub trade-other : (other : ℕ) → (other ≡ place → ⊥) → test place ≡ true → test other ≡ true → is_trade (with_match match_id reports) ≡ true
  trade-other other apart own passes =
      let inside = within-at (λ (r : Report). same_id r.match_id match_id) reports place own in
      let within = within-at (λ (r : Report). same_id r.match_id match_id) reports other passes in
      let above = last_before-above test (length reports) place inside own in
      let beyond = last_before-above test (length reports) other within passes in
      elim (cases_eq place (last - 1)) [
        | inl same ↦
            elim (cases_eq other place) [
              | inl both ↦ absurd (apart both)
              | inr differ ↦ earlier_too other (omega (arith, placed.last_is, above, beyond)) passes
            ]
        | inr differ ↦ earlier_too place (omega (arith, placed.last_is, above)) own
      ]

  -- if only one position has it, its report waits
  pub trade-alone : ((other : ℕ) → test other ≡ true → other ≡ place) → is_trade (with_match match_id reports) ≡ false
  trade-alone only =
      elim (cases_Bool (first == 0)) [
        | inl none ↦ sym (trade-is reports match_id last first placed sound) ∙ ap not none
        | inr some ↦
            let there = eqb-false first 0 some in
            let below = last_before-le test (last - 1) in
            let one : first ≡ suc (first - 1) = omega arith in
            let two : last ≡ suc (last - 1) = omega (arith, placed.first_is, below) in
            let early = only (first - 1) (last_before-passes test (last - 1) (first - 1) (sym placed.first_is ∙ one)) in
            let late = only (last - 1) (last_before-passes test (length reports) (last - 1) (sym placed.last_is ∙ two)) in
            absurd (omega (arith, placed.first_is, below))
      ]
