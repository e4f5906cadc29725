-- Each offer in turn: older offers keep what they got, and the next one gets as much as possible.
use Rattle.gu_flow.proofs.Words.{◌≡◌, ℕ, ◌+◌, ◌-◌, ◌<◌, ◌≤◌, ◌==◌, cond, List, zero, suc, length, take, get_or, sym, ◌∙◌, ap, arith, inl, inr, add-one, subst, cases_eq, ne_eqb, cond-false, sum_by_more, GroupView, ViewOffer, IsFlow, value_of, no_offer, offer_at, got_before, IsOldestBefore, agreement_place, agreement_lots, Arc}

module _ (view : GroupView) (arcs : List Arc) (flow after : List ℕ) (i : ℕ) (i_in : i < length view.offers) (oldest : IsOldestBefore view arcs flow i) (is_flow : IsFlow arcs after) (value : value_of arcs after ≡ value_of arcs flow)
    (keeps : (p : ℕ) → got_before view flow i p ≤ get_or after p 0) where
  -- the lots of the offers before one, by the index of their agreement's room
  abbrev lots : ℕ → ℕ → ℕ
  lots j p = agreement_lots view.rooms (take j view.offers) p

  pub more : (j p : ℕ) → j < length view.offers → lots (j + 1) p ≡ lots j p + cond (agreement_place view.rooms (offer_at view.offers j) == p) (offer_at view.offers j).lots 0
  more j p j_in = sum_by_more (λ (o : ViewOffer). cond (agreement_place view.rooms o == p) o.lots 0) view.offers j no_offer j_in

  rises : (n j p : ℕ) → j + n ≤ length view.offers → lots j p ≤ lots (j + n) p
  rises zero j p inside = let none : j + 0 ≡ j = omega arith in omega (arith, ap (λ m. lots m p) none)
  rises (suc n) j p inside =
      let one : j + suc n ≡ j + n + 1 = omega arith in
      omega (arith, rises n j p (omega arith), ap (λ m. lots m p) one, more (j + n) p (omega arith))

  upto : (j k p : ℕ) → j ≤ k → k ≤ length view.offers → lots j p ≤ lots k p
  upto j k p less inside = let d : j + (k - j) ≡ k = omega arith in omega (arith, rises (k - j) j p (omega arith), ap (λ m. lots m p) d)

  -- what the earlier offers got is unchanged
  pub stays : (j : ℕ) → j ≤ i → (p : ℕ) → got_before view after j p ≡ got_before view flow j p
  stays zero j_in p = omega arith
  stays (suc j) j_in p =
      let before = stays j (omega arith) p in
      let k = agreement_place view.rooms (offer_at view.offers j) in
      let step : got_before view after (j + 1) p ≡ got_before view flow (j + 1) p = elim (cases_eq k p) [
        | inl here ↦
            let most = subst (λ q. got_before view after (j + 1) q ≤ got_before view flow (j + 1) q) here
            (oldest.each j (omega arith) after is_flow value (λ q. omega (arith, keeps q, upto j i q (omega arith) (omega arith)))) in
            omega (arith, most, keeps p, upto (j + 1) i p (omega arith) (omega arith))
        | inr other ↦ omega (arith, before, more j p (omega arith), cond-false (k == p) (offer_at view.offers j).lots 0 (ne_eqb k p other))
      ] in
      rw (← add-one) step

  pub one_more : ((others : List ℕ) → IsFlow arcs others → value_of arcs others ≡ value_of arcs after → ((p : ℕ) → got_before view flow i p ≤ get_or others p 0)
      → got_before view others (i + 1) (agreement_place view.rooms (offer_at view.offers i)) ≤ got_before view after (i + 1) (agreement_place view.rooms (offer_at view.offers i))) → IsOldestBefore view arcs after (i + 1)
  one_more most = record {
    each = λ j j_in others their_flow same got. elim (cases_eq j i) [
      | inl last ↦
          subst (λ m. got_before view others (m + 1) (agreement_place view.rooms (offer_at view.offers m)) ≤ got_before view after (m + 1) (agreement_place view.rooms (offer_at view.offers m))) (sym last)
          (most others their_flow same (λ p. omega (arith, got p, ap (λ m. got_before view after m p) last, stays i (omega arith) p)))
      | inr earlier ↦
          let k = agreement_place view.rooms (offer_at view.offers j) in
          omega (arith, oldest.each j (omega arith) others their_flow (same ∙ value) (λ p. omega (arith, got p, stays j (omega arith) p)), stays (j + 1) (omega arith) k)
    ];
  }
