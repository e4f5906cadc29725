-- The indexes at which the elements of a list pass a test, and sums over them.
use Rattle.gu_view.proofs.Words.{◌≡◌, ℕ, zero, suc, ◌+◌, ◌<◌, ◌≤◌, Bool, true, false, cond, List, [], ◌∷◌, length, get_or, refl, sym, ap, subst, ◌∙◌, arith, add-zero, inl, inr, All, sum, sum_by, AllByRecursion, cases_Bool, All-from_recursion, sum_by-cons, part-le}
use Rattle.gu_view.specs.Places.{places_from, places_where}

-- a sum whose first number is kept or dropped
sum_by-keep : (g : ℕ → ℕ) (b : Bool) (n : ℕ) (ns : List ℕ) → sum_by g (cond b (n ∷ ns) ns) ≡ cond b (g n) 0 + sum_by g ns
sum_by-keep g true n ns = sum_by-cons g n ns
sum_by-keep g false n ns = omega arith

-- a sum over the indexes that pass is one over the elements
pub sum_by-places : {X : Type 0} (p : X → Bool) (f : X → ℕ) (g : ℕ → ℕ) (from : ℕ) (xs : List X) → ((k : ℕ) (d : X) → k < length xs → g (from + k) ≡ f (get_or xs k d))
    → sum_by g (places_from p from xs) ≡ sum_by (λ x. cond (p x) (f x) 0) xs
sum_by-places p f g from [] same = refl
sum_by-places p f g from (x ∷ xs) same =
    let rest = sum_by-places p f g (suc from) xs (λ k d inside. ap g (omega arith) ∙ same (suc k) d (omega arith)) in
    let first : g from ≡ f x = ap g (sym (add-zero from)) ∙ same 0 x (omega arith) in
    omega (arith, rest, sum_by-keep g (p x) from (places_from p (suc from) xs), sum_by-cons (λ x. cond (p x) (f x) 0) x xs, ap (λ n. cond (p x) n 0) first)

-- and at most the sum of all
pub sum_by-places-le : {X : Type 0} (p : X → Bool) (g : ℕ → ℕ) (from : ℕ) (xs : List X) (ys : List ℕ) → length ys ≡ length xs → ((k : ℕ) → k < length ys → g (from + k) ≡ get_or ys k 0)
    → sum_by g (places_from p from xs) ≤ sum ys
sum_by-places-le p g from [] ys long same = omega arith
sum_by-places-le p g from (x ∷ xs) [] long same = absurd (omega arith)
sum_by-places-le p g from (x ∷ xs) (y ∷ ys) long same =
    let rest = sum_by-places-le p g (suc from) xs ys (omega arith) (λ k inside. ap g (omega arith) ∙ same (suc k) (omega arith)) in
    let first : g from ≡ y = ap g (sym (add-zero from)) ∙ same 0 (omega arith) in
    omega (arith, rest, sum_by-keep g (p x) from (places_from p (suc from) xs), sum_by-cons (λ (n : ℕ). n) y ys, part-le (p x) (g from))

module _ {X : Type 0} where
  -- a property of each index at which a test passes
  pub at_places : (P : ℕ → Type 0) (test : X → Bool) (from : ℕ) (xs : List X) → AllByRecursion P (places_from test from xs) → (k : ℕ) (d : X) → k < length xs → test (get_or xs k d) ≡ true → P (from + k)
  at_places P test from [] h k d inside hit = absurd (omega arith)
  at_places P test from (x ∷ xs) h zero d inside hit = subst P (sym (add-zero from)) (rw hit at h).0
  at_places P test from (x ∷ xs) h (suc k) d inside hit =
      let next : suc from + k ≡ from + suc k = omega arith in
      subst P next (at_places P test (suc from) xs (rest (test x) h) k d (omega arith) hit)
    where
      rest : (b : Bool) → AllByRecursion P (cond b (from ∷ places_from test (suc from) xs) (places_from test (suc from) xs)) → AllByRecursion P (places_from test (suc from) xs)
      rest true h = h.1
      rest false h = h

  pub each_place : (P : ℕ → Type 0) (test : X → Bool) (from : ℕ) (xs : List X) → ((k : ℕ) (d : X) → k < length xs → test (get_or xs k d) ≡ true → P (from + k)) → AllByRecursion P (places_from test from xs)
  each_place P test from [] h = tt
  each_place P test from (x ∷ xs) h =
      let rest = each_place P test (suc from) xs (λ k d inside hit. let next : from + suc k ≡ suc from + k = omega arith in subst P next (h (suc k) d (omega arith) hit)) in
      elim (cases_Bool (test x)) [
        | inl hit ↦ rw hit (subst P (add-zero from) (h 0 x (omega arith) hit), rest)
        | inr miss ↦ rw miss rest
      ]

  -- they are indexes of the list
  pub places_where-within : (test : X → Bool) (xs : List X) → All (λ p. p < length xs) (places_where test xs)
  places_where-within test xs = All-from_recursion (λ p. p < length xs) (places_where test xs) (each_place (λ p. p < length xs) test 0 xs (λ k d inside hit. omega arith))
