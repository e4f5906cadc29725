-- The takes with more than 0 lots take the same as all takes, in total and from each offer.
use Rattle.gu_flow.proofs.Words.{◌≡◌, ℕ, ◌<◌, ◌==◌, false, true, List, [], ◌∷◌, refl, ◌∙◌, ap, sym, arith, inl, inr, None, All, nat_lt, sum_by, unwrap_or, find, option_map, cases_eq, eq-eqb, ne_eqb, lt-ltb, ltb-true, filter_passes, sum_by-cons, Later, Later-from_AllPairs, along, none_found, IsAscending, lots_of, Take, above_zero}
use Rattle.std.proofs.lemmas.List.Kept.{AllPairs-filter}

-- each takes lots
pub above_zero-all : (takes : List Take) → All (λ t. 0 < t.lots) (above_zero takes)
above_zero-all takes i d inside = ltb-true 0 _ (filter_passes (λ (t : Take). nat_lt 0 t.lots) takes i d inside)

-- they ascend if all do
pub above_zero-ascend : (takes : List Take) → IsAscending takes → IsAscending (above_zero takes)
above_zero-ascend takes h = AllPairs-filter (λ (a b : Take). a.offer < b.offer) (λ (t : Take). nat_lt 0 t.lots) takes h

-- in total they take as much
pub above_zero-sum : (takes : List Take) → sum_by (λ (t : Take). t.lots) (above_zero takes) ≡ sum_by (λ (t : Take). t.lots) takes
above_zero-sum [] = refl
above_zero-sum (t ∷ ts) =
    let lots : Take → ℕ = λ t. t.lots in
    let rest = above_zero-sum ts in
    let whole = sum_by-cons lots t ts in
    elim (cases_eq t.lots 0) [
      | inl none ↦ let dropped : nat_lt 0 t.lots ≡ false = ap (nat_lt 0) none in rw dropped (omega arith)
      | inr some ↦
          let kept : nat_lt 0 t.lots ≡ true = lt-ltb 0 t.lots (omega arith) in
          let more = sum_by-cons lots t (above_zero ts) in
          rw kept (omega arith)
    ]

-- and from each offer as much
by_offer : (takes : List Take) → Later (λ (a b : Take). a.offer < b.offer) takes → (n : ℕ) → lots_of (above_zero takes) n ≡ lots_of takes n
by_offer [] h n = refl
by_offer (t ∷ ts) h n =
    let rest = by_offer ts h.1 n in
    elim (cases_eq t.lots 0) [
      | inl none ↦
          let dropped : nat_lt 0 t.lots ≡ false = ap (nat_lt 0) none in
          elim (cases_eq t.offer n) [
            | inl here ↦
                let later : find (λ (u : Take). u.offer == n) ts ≡ None =
                none_found (λ (u : Take). u.offer == n) ts (along (λ u. t.offer < u.offer) (λ u. (u.offer == n) ≡ false) ts (λ u less. ne_eqb u.offer n (λ e. absurd (omega (arith, e, less, here)))) h.0) in
                let nothing : lots_of ts n ≡ 0 = ap (λ found. unwrap_or (option_map (λ (t : Take). t.lots) found) 0) later in
                rw (dropped, eq-eqb t.offer n here) (rest ∙ nothing ∙ sym none)
            | inr other ↦ rw (dropped, ne_eqb t.offer n other) rest
          ]
      | inr some ↦
          let kept : nat_lt 0 t.lots ≡ true = lt-ltb 0 t.lots (omega arith) in
          elim (cases_eq t.offer n) [
            | inl here ↦ rw (kept, eq-eqb t.offer n here) refl
            | inr other ↦ rw (kept, ne_eqb t.offer n other) rest
          ]
    ]

pub above_zero-lots : (takes : List Take) → IsAscending takes → lots_of (above_zero takes) ≡ lots_of takes
above_zero-lots takes h = λ i n. by_offer takes (Later-from_AllPairs (λ (a b : Take). a.offer < b.offer) takes h) n i
