-- The rules hold for no reports, and still hold after one more that is new and doesn't conflict.
use Rattle.std.proofs.Common.{◌≡◌, ◌∙◌, sym, refl, ap, Bool, true, false, not, cond, List, [], ◌∷◌, ◌++◌}
use Rattle.std.specs.List.{IsDistinct}
use Rattle.std.proofs.lemmas.Slice.Eq.{bytes_eq-Decides}
use Rattle.gu_terms.specs.declared.id.Id.{Id}
use Rattle.gu_terms.specs.declared.report.Report.{Report}
use Rattle.gu_terms.proofs.Found.{distinct-push}
use Rattle.gu_trades.specs.Matching.{conflicts, is_other_side}
use Rattle.gu_trades.specs.Reports.{has_report, with_match}
use Rattle.gu_trades.specs.Rules.{IsSound, are_sides, same_report}
use Rattle.gu_terms.specs.Same.{same_id}

-- the rules hold for no reports
pub sound-empty : IsSound []
unfolding IsDistinct
sound-empty = record { once = tt; sides = λ match_id. refl }

-- one more report is the last with its match id
pub with_match-push : (match_id : Id) (reports : List Report) (r : Report)
    → with_match match_id (reports ++ r ∷ []) ≡ cond (same_id r.match_id match_id) (with_match match_id reports ++ r ∷ []) (with_match match_id reports)
with_match-push match_id [] r = refl
with_match-push match_id (first ∷ reports) r =
    by (same_id first.match_id match_id) (same_id r.match_id match_id) (with_match match_id (reports ++ r ∷ [])) (with_match match_id reports) (with_match-push match_id reports r)
  where
    by : (own new : Bool) (after before : List Report) → after ≡ cond new (before ++ r ∷ []) before
        → cond own (first ∷ after) after ≡ cond new (cond own (first ∷ before) before ++ r ∷ []) (cond own (first ∷ before) before)
    by true true after before e = ap (λ l. first ∷ l) e
    by true false after before e = ap (λ l. first ∷ l) e
    by false new after before e = e

-- equal ids have the same reports
pub with_match-same : (one other : Id) (reports : List Report) → same_id one other ≡ true → with_match one reports ≡ with_match other reports
with_match-same one other reports same = ap (λ id. with_match id reports) ((bytes_eq-Decides one other).0 same)

fits : (b : Bool) → not b ≡ false → b ≡ true
fits true h = refl
fits false h = cc

-- a report that doesn't conflict joins those with its match id
are_sides-push : (sides : List Report) (r : Report) → are_sides sides ≡ true → conflicts sides r ≡ false → are_sides (sides ++ r ∷ []) ≡ true
are_sides-push [] r sound fit = refl
are_sides-push (first ∷ []) r sound fit = fits (is_other_side first r) fit
are_sides-push (first ∷ second ∷ more) r sound fit = cc

-- one more report keeps the rules
pub sound-push : (reports : List Report) (r : Report) → IsSound reports → has_report reports r.firm r.id ≡ false → conflicts (with_match r.match_id reports) r ≡ false → IsSound (reports ++ r ∷ [])
sound-push reports r sound new fit = record {
  once = distinct-push same_report reports r new sound.once;
  sides = λ match_id. by match_id (same_id r.match_id match_id) refl;
}
  where
    by : (match_id : Id) (own : Bool) → same_id r.match_id match_id ≡ own → are_sides (with_match match_id (reports ++ r ∷ [])) ≡ true
    by match_id true e =
        let after : with_match match_id (reports ++ r ∷ []) ≡ with_match match_id reports ++ r ∷ [] =
        with_match-push match_id reports r ∙ ap (λ b. cond b (with_match match_id reports ++ r ∷ []) (with_match match_id reports)) e in
        let fit_here : conflicts (with_match match_id reports) r ≡ false = ap (λ l. conflicts l r) (sym (with_match-same r.match_id match_id reports e)) ∙ fit in
        ap are_sides after ∙ are_sides-push (with_match match_id reports) r (sound.sides match_id) fit_here
    by match_id false e =
        let after : with_match match_id (reports ++ r ∷ []) ≡ with_match match_id reports =
        with_match-push match_id reports r ∙ ap (λ b. cond b (with_match match_id reports ++ r ∷ []) (with_match match_id reports)) e in
        ap are_sides after ∙ sound.sides match_id
