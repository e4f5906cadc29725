-- Reports found by their positions, and one more report.
use Rattle.std.proofs.Common.{◌≡◌, ◌∙◌, sym, refl, ap, subst, ℕ, suc, ◌-◌, ◌<◌, Bool, true, false, not, filter, List, [], ◌∷◌, ◌++◌, map, length, take, slice_get, Option, Some, None, is_some, unwrap_or, inl, inr, eq-eqb, arith}
use Rattle.std.specs.Option.{option_map}
use Rattle.std.specs.Prelude.{◌==◌, if◌then◌else◌}
use Rattle.std.proofs.lemmas.Bool.{cases_Bool, eqb-true}
use Rattle.std.proofs.lemmas.List.{map-append, take_all}
use Rattle.std.proofs.lemmas.Slice.Eq.{bytes_eq-Decides}
use Rattle.gu_terms.proofs.SameValues.{both}
use Rattle.gu_terms.specs.Same.{same_firm, same_id}
use Rattle.gu_terms.specs.declared.firm.FirmId.{FirmId}
use Rattle.gu_terms.specs.declared.id.Id.{Id}
use Rattle.gu_terms.specs.declared.report.Report.{Report}
use Rattle.gu_terms.specs.declared.seed.Seed.{Seed}
use Rattle.gu_trades.specs.declared.trades.Trades.TheInside.{Inside}
use Rattle.gu_terms.proofs.Found.{is_some-find}
use Rattle.gu_trades.specs.Counterparts.{counterpart_of, standing_in}
use Rattle.gu_trades.specs.Kept.{ArePlaced, IsKept, id_number, is_by_at, is_with_at, match_number}
use Rattle.gu_trades.specs.Matching.{conflicts, have_other_sides, is_of_trade, is_trade, matching_of}
use Rattle.gu_trades.specs.Terms.{terms_of}
use Rattle.gu_trades.specs.declared.counterpart.Counterpart.TheVariants.{Conflicting, Waiting}
use Rattle.gu_trades.specs.declared.terms.Terms.{Terms}
use Rattle.gu_trades.specs.declared.matching.Matching.TheVariants.{Opened, Matched}
use Rattle.gu_trades.specs.Numbered.{last_before}
use Rattle.gu_trades.specs.Reports.{has_report, is_by, report_by, with_match}
use Rattle.gu_trades.specs.Rules.{IsSound, are_sides, same_report}
use Rattle.gu_trades.proofs.LastPlaces.{at-some, find-none, find-some, front-none, front-some, two_sides}
use Rattle.gu_trades.proofs.OneMore.{sound-empty, sound-push}
use Rattle.gu_trades.proofs.Rows.{last_before-le, last_before-passes}

-- ---- hashes

-- the firm's report with an id has the hash of these
pub by-agree : (seed : Seed) (firm : FirmId) (id : Id) (r : Report) → is_by firm id r ≡ true → id_number seed r.firm r.id ≡ id_number seed firm id
by-agree seed firm id r own =
    let p = both (same_firm r.firm firm) (same_id r.id id) own in
    ap (λ f. id_number seed f r.id) (ap (λ n. record { name = n }) ((bytes_eq-Decides r.firm.name firm.name).0 p.0)) ∙ ap (id_number seed firm) ((bytes_eq-Decides r.id id).0 p.1)

-- a report with a match id has its hash
pub with-agree : (seed : Seed) (match_id : Id) (r : Report) → same_id r.match_id match_id ≡ true → match_number seed r.match_id ≡ match_number seed match_id
with-agree seed match_id r own = ap (match_number seed) ((bytes_eq-Decides r.match_id match_id).0 own)

-- a firm's reports with the same id are the same report
by-both : (firm : FirmId) (id : Id) (a b : Report) → is_by firm id a ≡ true → is_by firm id b ≡ true → same_report a b ≡ true
by-both firm id a b own other =
    let p = both (same_firm a.firm firm) (same_id a.id id) own in
    let q = both (same_firm b.firm firm) (same_id b.id id) other in
    let names : a.firm.name ≡ b.firm.name = (bytes_eq-Decides a.firm.name firm.name).0 p.0 ∙ sym ((bytes_eq-Decides b.firm.name firm.name).0 q.0) in
    let ids : a.id ≡ b.id = (bytes_eq-Decides a.id id).0 p.1 ∙ sym ((bytes_eq-Decides b.id id).0 q.1) in
    rw ((bytes_eq-Decides a.firm.name b.firm.name).1 names, (bytes_eq-Decides a.id b.id).1 ids) refl

-- a walk that has reached a position that passes has found it
pub found-here : (test : ℕ → Bool) (here : ℕ) → 0 < here → test (here - 1) ≡ true → last_before test here ≡ here
found-here test here some hit =
    let one : here ≡ suc (here - 1) = omega arith in
    let inner : last_before test (suc (here - 1)) ≡ suc (here - 1) = rw hit refl in
    ap (last_before test) one ∙ inner ∙ sym one

-- ---- by firm and id

module _ (reports : List Report) (firm : FirmId) (id : Id) (last : ℕ) (sound : IsSound reports) (is : last ≡ last_before (is_by_at reports firm id) (length reports)) where
  pub by-none : last ≡ 0 → report_by reports firm id ≡ None
  by-none none = find-none (is_by firm id) same_report (by-both firm id) reports (sym is ∙ none)

  pub by-within : (last ≡ 0 → ⊥) → last - 1 < length reports
  by-within some = omega (arith, is, last_before-le (is_by_at reports firm id) (length reports))

  pub by-found : (last ≡ 0 → ⊥) → report_by reports firm id ≡ slice_get reports (last - 1)
  by-found some =
      let one : last ≡ suc (last - 1) = omega arith in
      find-some (is_by firm id) same_report (by-both firm id) reports (last - 1) sound.once (sym is ∙ one)

  pub by-has : not (last == 0) ≡ has_report reports firm id
  by-has =
      elim (cases_Bool (last == 0)) [
        | inl none ↦ rw none (ap is_some (sym (by-none (eqb-true last 0 none))) ∙ is_some-find (is_by firm id) reports)
        | inr some ↦
            let there : last ≡ 0 → ⊥ = λ zeroth. let never : true ≡ false = sym (eq-eqb last 0 zeroth) ∙ some in cc in
            let one : last ≡ suc (last - 1) = omega arith in
            let own = at-some (is_by firm id) reports (last - 1) (last_before-passes (is_by_at reports firm id) (length reports) (last - 1) (sym is ∙ one)) in
            rw some (sym (ap is_some own.1) ∙ ap is_some (sym (by-found there)) ∙ is_some-find (is_by firm id) reports)
      ]

-- a report's status: its terms, and whether it is a side of a trade
pub standing-is : (reports : List Report) (found : Option Report) (terms : Terms) (of_trade : Bool) → option_map terms_of found ≡ Some terms → option_map (is_of_trade reports) found ≡ Some of_trade
    → option_map (standing_in reports) found ≡ Some (record { terms = terms; is_of_trade = of_trade })
standing-is reports None terms of_trade one two = cc
standing-is reports (Some r) terms of_trade one two =
    let same : terms_of r ≡ terms = ap (λ (t : Option Terms). unwrap_or t terms) one in
    let own : is_of_trade reports r ≡ of_trade = ap (λ (b : Option Bool). unwrap_or b of_trade) two in
    (λ i. Some (record { terms = same i; is_of_trade = own i }))

-- ---- by match id

matched-behind : (others : List Report) (r : Report) → matching_of (others ++ r ∷ []) ≡ Matched
matched-behind [] r = refl
matched-behind (other ∷ others) r = refl

module _ (reports : List Report) (match_id : Id) (last : ℕ) (is : last ≡ last_before (is_with_at reports match_id) (length reports)) where
  pub with-none : last ≡ 0 → with_match match_id reports ≡ []
  with-none none = ap (filter (λ (r : Report). same_id r.match_id match_id)) (sym (take_all (length reports) reports (omega arith)))
      ∙ front-none (λ (r : Report). same_id r.match_id match_id) reports (length reports) (omega arith) (sym is ∙ none)

  pub with-within : (last ≡ 0 → ⊥) → last - 1 < length reports
  with-within some = omega (arith, is, last_before-le (is_with_at reports match_id) (length reports))

  -- the last position has it
  pub with-passes : (last ≡ 0 → ⊥) → is_with_at reports match_id (last - 1) ≡ true
  with-passes some = let one : last ≡ suc (last - 1) = omega arith in last_before-passes (is_with_at reports match_id) (length reports) (last - 1) (sym is ∙ one)

  pub with-last : (last ≡ 0 → ⊥) → (r : Report) → slice_get reports (last - 1) ≡ Some r
      → with_match match_id reports ≡ with_match match_id (take (last - 1) reports) ++ r ∷ []
  with-last some r read =
      let one : last ≡ suc (last - 1) = omega arith in
      ap (filter (λ (r : Report). same_id r.match_id match_id)) (sym (take_all (length reports) reports (omega arith)))
      ∙ front-some (λ (r : Report). same_id r.match_id match_id) reports (length reports) (last - 1) r (omega arith) (sym is ∙ one) read

  -- the effect of one more report
  pub matching-is : (if last == 0 then Opened else Matched) ≡ matching_of (with_match match_id reports)
  matching-is =
      elim (cases_Bool (last == 0)) [
        | inl none ↦ rw none (sym (ap matching_of (with-none (eqb-true last 0 none))))
        | inr some ↦
            let there : last ≡ 0 → ⊥ = λ zeroth. let never : true ≡ false = sym (eq-eqb last 0 zeroth) ∙ some in cc in
            let own = at-some (λ (r : Report). same_id r.match_id match_id) reports (last - 1) (with-passes there) in
            rw some (sym (ap matching_of (with-last there own.0 own.1) ∙ matched-behind (with_match match_id (take (last - 1) reports)) own.0))
      ]

-- ---- the last two with a match id

module _ (reports : List Report) (match_id : Id) (last first : ℕ) (placed : ArePlaced reports match_id last first) where
  pub first-within : (first ≡ 0 → ⊥) → first - 1 < length reports
  first-within there =
      omega (arith, placed.last_is, placed.first_is, last_before-le (is_with_at reports match_id) (length reports), last_before-le (is_with_at reports match_id) (last - 1))

  -- if there is an earlier one, there is a later one
  last-there : (first ≡ 0 → ⊥) → last ≡ 0 → ⊥
  last-there there none = absurd (omega (arith, placed.first_is, last_before-le (is_with_at reports match_id) (last - 1)))

  pub with-one : (last ≡ 0 → ⊥) → (r : Report) → slice_get reports (last - 1) ≡ Some r → first ≡ 0 → with_match match_id reports ≡ r ∷ []
  with-one some r read none =
      with-last reports match_id last placed.last_is some r read
      ∙ ap (λ rs. rs ++ r ∷ [])
      (front-none (λ (r : Report). same_id r.match_id match_id) reports (last - 1) (omega (arith, with-within reports match_id last placed.last_is some)) (sym placed.first_is ∙ none))

  module _ (sound : are_sides (with_match match_id reports) ≡ true) where
    pub with-two : (first ≡ 0 → ⊥) → (s r : Report) → slice_get reports (first - 1) ≡ Some s → slice_get reports (last - 1) ≡ Some r → with_match match_id reports ≡ s ∷ r ∷ []
    with-two there s r reads read =
        let some = last-there there in
        let one : first ≡ suc (first - 1) = omega arith in
        let front : with_match match_id (take (last - 1) reports) ≡ with_match match_id (take (first - 1) reports) ++ s ∷ [] =
        front-some (λ (r : Report). same_id r.match_id match_id) reports (last - 1) (first - 1) s (omega (arith, with-within reports match_id last placed.last_is some)) (sym placed.first_is ∙ one) reads in
        let whole : with_match match_id reports ≡ (with_match match_id (take (first - 1) reports) ++ s ∷ []) ++ r ∷ [] =
        with-last reports match_id last placed.last_is some r read ∙ ap (λ rs. rs ++ r ∷ []) front in
        let none : with_match match_id (take (first - 1) reports) ≡ [] = two_sides (with_match match_id (take (first - 1) reports)) s r (sym (ap are_sides whole) ∙ sound) in
        whole ∙ ap (λ rs. (rs ++ s ∷ []) ++ r ∷ []) none

    -- there are two of them
    two : (first ≡ 0 → ⊥) → (s : Report) × (r : Report) × (with_match match_id reports ≡ s ∷ r ∷ [])
    two there =
        let one : first ≡ suc (first - 1) = omega arith in
        let passes = last_before-passes (is_with_at reports match_id) (last - 1) (first - 1) (sym placed.first_is ∙ one) in
        let s = at-some (λ (r : Report). same_id r.match_id match_id) reports (first - 1) passes in
        let r = at-some (λ (r : Report). same_id r.match_id match_id) reports (last - 1) (with-passes reports match_id last placed.last_is (last-there there)) in
        (s.0, r.0, with-two there s.0 r.0 s.1 r.1)

    -- so they are a trade
    pub trade-is : not (first == 0) ≡ is_trade (with_match match_id reports)
    trade-is =
        elim (cases_Bool (first == 0)) [
          | inl none ↦
              rw none (elim (cases_Bool (last == 0)) [
                | inl nobody ↦ sym (ap is_trade (with-none reports match_id last placed.last_is (eqb-true last 0 nobody)))
                | inr some ↦
                    let there : last ≡ 0 → ⊥ = λ zeroth. let never : true ≡ false = sym (eq-eqb last 0 zeroth) ∙ some in cc in
                    let own = at-some (λ (r : Report). same_id r.match_id match_id) reports (last - 1) (with-passes reports match_id last placed.last_is there) in
                    sym (ap is_trade (with-one there own.0 own.1 (eqb-true first 0 none)))
              ])
          | inr some ↦
              let there : first ≡ 0 → ⊥ = λ zeroth. let never : true ≡ false = sym (eq-eqb first 0 zeroth) ∙ some in cc in
              rw some (sym (ap is_trade (two there).2))
        ]

    -- and conflict with any further report
    pub conflicting-is : (first ≡ 0 → ⊥) → (terms : Terms) → Conflicting ≡ counterpart_of (with_match match_id reports) terms
    conflicting-is there terms = sym (ap (λ (rs : List Report). counterpart_of rs terms) (two there).2)

  -- a single report is the counterpart, or conflicts
  pub counterpart-one : (last ≡ 0 → ⊥) → first ≡ 0 → (waiting terms : Terms) → option_map terms_of (slice_get reports (last - 1)) ≡ Some waiting
      → counterpart_of (with_match match_id reports) terms ≡ (if have_other_sides waiting terms then Waiting waiting else Conflicting)
  counterpart-one some none waiting terms read =
      let own = at-some (λ (r : Report). same_id r.match_id match_id) reports (last - 1) (with-passes reports match_id last placed.last_is some) in
      let same : terms_of own.0 ≡ waiting = ap (λ (t : Option Terms). unwrap_or t waiting) (sym (ap (option_map terms_of) own.1) ∙ read) in
      ap (λ (rs : List Report). counterpart_of rs terms) (with-one some own.0 own.1 none)
      ∙ ap (λ (t : Terms). if have_other_sides t terms then Waiting t else Conflicting) same

-- whether a report is a side of a trade, by its match id
pub of_trade-is : (reports : List Report) (found : Option Report) (match_id : Id) → option_map (λ (r : Report). r.match_id) found ≡ Some match_id
    → option_map (is_of_trade reports) found ≡ Some (is_trade (with_match match_id reports))
of_trade-is reports None match_id is = cc
of_trade-is reports (Some r) match_id is =
    let same : r.match_id ≡ match_id = ap (λ (m : Option Id). unwrap_or m match_id) is in
    ap (λ (m : Id). Some (is_trade (with_match m reports))) same

-- ---- the table as stored

-- with no reports
pub kept-empty : (kept : Inside) → kept.reports ≡ [] → kept.by_id.numbers ≡ [] → kept.by_match.numbers ≡ [] → IsKept kept
kept-empty kept none nothing none_with = record {
  named = nothing ∙ sym (ap (map (λ (r : Report). id_number kept.seed r.firm r.id)) none);
  matched = none_with ∙ sym (ap (map (λ (r : Report). match_number kept.seed r.match_id)) none);
  sound = subst IsSound (sym none) sound-empty;
}

-- with one more report, which is new and doesn't conflict
pub kept-push : (old new : Inside) (reports : List Report) (r : Report) → old.reports ≡ reports → IsKept old → has_report reports r.firm r.id ≡ false → conflicts (with_match r.match_id reports) r ≡ false
    → new.seed ≡ old.seed → new.reports ≡ old.reports ++ r ∷ []
    → new.by_id.numbers ≡ old.by_id.numbers ++ id_number old.seed r.firm r.id ∷ [] → new.by_match.numbers ≡ old.by_match.numbers ++ match_number old.seed r.match_id ∷ []
    → IsKept new
kept-push old new reports r view kept absent fit seed added named matched =
    let by : Seed → List Report → List ℕ = λ seed. map (λ (r : Report). id_number seed r.firm r.id) in
    let with_match_id : Seed → List Report → List ℕ = λ seed. map (λ (r : Report). match_number seed r.match_id) in
    record {
      named =
          named ∙ ap (λ ns. ns ++ id_number old.seed r.firm r.id ∷ []) kept.named
          ∙ sym (map-append (λ (r : Report). id_number old.seed r.firm r.id) old.reports (r ∷ []))
          ∙ ap (by old.seed) (sym added) ∙ ap (λ seed. by seed new.reports) (sym seed);
      matched =
          matched ∙ ap (λ ns. ns ++ match_number old.seed r.match_id ∷ []) kept.matched
          ∙ sym (map-append (λ (r : Report). match_number old.seed r.match_id) old.reports (r ∷ []))
          ∙ ap (with_match_id old.seed) (sym added) ∙ ap (λ seed. with_match_id seed new.reports) (sym seed);
      sound = subst IsSound (sym (added ∙ ap (λ rs. rs ++ r ∷ []) view)) (sound-push reports r (subst IsSound view kept.sound) absent fit);
    }
