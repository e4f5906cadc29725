-- Lists of numbers without repetition.
use Rattle.gu_view.proofs.Words.{◌≡◌, ◌≢◌, ℕ, zero, suc, ◌+◌, ◌<◌, ◌==◌, ◌||◌, Bool, true, false, cond, List, [], ◌∷◌, length, take, get_or, set, refl, sym, ap, ◌∙◌, arith, inl, inr, AllPairs, list_any, cases_order, cond-false, cond-true, eq-eqb, ne_eqb, or_from, or_right, get_or-set_other, list_any_more, get_or-set_at}
use Rattle.gu_view.proofs.MemberLemmas.{has}

-- in a list of distinct numbers, none occurs before its index
pub not_before : (list : List ℕ) (i d : ℕ) → AllPairs (λ a b. a ≢ b) list → i < length list → list_any (λ n. n == get_or list i d) (take i list) ≡ false
not_before [] i d apart inside = absurd (omega arith)
not_before (n ∷ list) zero d apart inside = refl
not_before (n ∷ list) (suc i) d apart inside =
    or_from (n == get_or list i d) (has (get_or list i d) (take i list)) (ne_eqb n (get_or list i d) (apart 0 (suc i) d (omega arith) inside))
    (not_before list i d (λ a b e less b_in. apart (suc a) (suc b) e (omega arith) (omega arith)) (omega arith))

-- ---- counts of such lists

pub or_no : (a b : Bool) → b ≡ false → (a || b) ≡ a
or_no true b e = refl
or_no false b e = e

-- this many more are counted at the index of each number
pub one_counted : (counts old list : List ℕ) (i n more : ℕ) → AllPairs (λ a b. a ≢ b) list → i < length list → get_or list i 0 < length counts
    → get_or counts n 0 ≡ get_or old n 0 + cond (has n (take i list)) more 0
    → get_or (set counts (get_or list i 0) (get_or counts (get_or list i 0) 0 + more)) n 0 ≡ get_or old n 0 + cond (has n (take (i + 1) list)) more 0
one_counted counts old list i n more apart inside within so_far =
    let m = get_or list i 0 in
    let longer = list_any_more (λ p. p == n) list i 0 inside in
    elim (cases_order n m) [
      | inl same ↦
          let none : has n (take i list) ≡ false = ap (λ p. has p (take i list)) same ∙ not_before list i 0 apart inside in
          let one : has n (take (i + 1) list) ≡ true = longer ∙ or_right (has n (take i list)) (m == n) (eq-eqb m n (sym same)) in
          let put : get_or (set counts m (get_or counts m 0 + more)) n 0 ≡ get_or counts n 0 + more =
          get_or-set_at counts m n (get_or counts m 0 + more) 0 same within ∙ ap (λ p. get_or counts p 0 + more) (sym same) in
          omega (arith, put, so_far, cond-false {A = ℕ} (has n (take i list)) more 0 none, cond-true {A = ℕ} (has n (take (i + 1) list)) more 0 one)
      | inr other ↦
          let apart_from : n ≢ m = λ e. elim other [ inl less ↦ omega (arith, e) | inr after ↦ omega (arith, e) ] in
          let stays : has n (take (i + 1) list) ≡ has n (take i list) = longer ∙ or_no (has n (take i list)) (m == n) (ne_eqb m n (λ e. apart_from (sym e))) in
          get_or-set_other counts m n (get_or counts m 0 + more) 0 apart_from ∙ so_far ∙ ap (λ b. get_or old n 0 + cond b more 0) (sym stays)
    ]
