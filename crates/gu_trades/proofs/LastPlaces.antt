-- The last report that passes a test, by position: how it is found by hashes, and what it means for the list.
use Rattle.std.proofs.Common.{◌≡◌, ◌∙◌, sym, refl, ap, subst, ℕ, zero, suc, ◌+◌, ◌-◌, ◌<◌, ◌≤◌, Bool, true, false, cond, filter, List, [], ◌∷◌, ◌++◌, map, length, take, slice_get, Option, Some, None, inl, inr, eq-eqb, arith}
use Rattle.std.specs.Prelude.{slice_index}
use Rattle.std.specs.List.{AllByRecursion, IsDistinct, find}
use Rattle.std.specs.Option.{option_map_or}
use Rattle.std.proofs.lemmas.Bool.{cases_Bool, eqb-true, false_from_ne_true}
use Rattle.std.proofs.lemmas.List.{append-nil}
use Rattle.std.proofs.lemmas.List.Elements.{filter_more}
use Rattle.std.proofs.lemmas.Map.Keys.{IsDistinct-head, IsDistinct-tail}
use Rattle.std.proofs.lemmas.Option.{get_or_from_slice_get, slice_get_cases}
use Rattle.gu_terms.specs.declared.report.Report.{Report}
use Rattle.gu_trades.specs.Numbered.{has_number, last_before}
use Rattle.gu_trades.specs.Rules.{are_sides}
use Rattle.gu_trades.proofs.Rows.{last_before-le, last_before-narrow, last_before-passes}

module _ {X : Type 0} (test : X → Bool) where
  -- the element at a position passes the test
  abbrev pub at : List X → ℕ → Bool
  at xs place = option_map_or test (slice_get xs place) false

  -- an element passes at a position of the list
  pub at-some : (xs : List X) (place : ℕ) → at xs place ≡ true → (x : X) × (slice_get xs place ≡ Some x) × (test x ≡ true)
  at-some xs place passes = by (slice_get xs place) refl
    where
      by : (o : Option X) → slice_get xs place ≡ o → (x : X) × (slice_get xs place ≡ Some x) × (test x ≡ true)
      by None e = let never : false ≡ true = sym (ap (λ o. option_map_or test o false) e) ∙ passes in cc
      by (Some x) e = (x, e, sym (ap (λ o. option_map_or test o false) e) ∙ passes)

  -- so the position is within the list
  pub within-at : (xs : List X) (place : ℕ) → at xs place ≡ true → place < length xs
  within-at xs place passes =
      elim (slice_get_cases xs place).1 [
        | inl s ↦ s.1
        | inr past ↦ let there = at-some xs place passes in let never : None ≡ Some there.0 = sym past.1 ∙ there.1 in cc
      ]

  -- ---- the last position, found by walking over hashes

  module _ (of : X → ℕ) (number : ℕ) (agree : (x : X) → test x ≡ true → of x ≡ number) (xs : List X) (numbers : List ℕ) (kept : numbers ≡ map of xs) where
    number-at : (ys : List X) (place : ℕ) (x : X) → slice_get ys place ≡ Some x → slice_index (map of ys) place ≡ of x
    number-at [] place x e = cc
    number-at (y ∷ ys) zero x e = let own : Some y ≡ Some x = e in let one : y ≡ x = cc in ap of one
    number-at (y ∷ ys) (suc place) x e = number-at ys place x e

    -- an element that passes has the hash
    pub has-own : (place : ℕ) → at xs place ≡ true → has_number numbers number place ≡ true
    has-own place passes =
        let there = at-some xs place passes in
        eq-eqb (slice_index numbers place) number (ap (λ ns. slice_index ns place) kept ∙ number-at xs place there.0 there.1 ∙ agree there.0 there.2)

    -- a walk from the last position with the hash
    pub walk-from : (bound from : ℕ) → from ≡ last_before (has_number numbers number) bound
        → (last_before (at xs) bound ≡ last_before (at xs) from) × (from ≤ bound) × (0 < from → slice_index numbers (from - 1) ≡ number)
    walk-from bound from is = (
      last_before-narrow (at xs) (has_number numbers number) bound (λ place below passes. has-own place passes) ∙ ap (last_before (at xs)) (sym is),
      omega (arith, is, last_before-le (has_number numbers number) bound),
      λ some.
          let one : from ≡ suc (from - 1) = omega arith in
          eqb-true (slice_index numbers (from - 1)) number (last_before-passes (has_number numbers number) bound (from - 1) (sym is ∙ one)),
    )

    -- continuing from a position
    pub walk-on : (here next : ℕ) → 0 < here → slice_index numbers (here - 1) ≡ number
        → next ≡ last_before (has_number numbers (slice_index numbers (here - 1))) (here - 1)
        → (last_before (at xs) (here - 1) ≡ last_before (at xs) next) × (next < here) × (0 < next → slice_index numbers (next - 1) ≡ number)
    walk-on here next some own is =
        let walked = walk-from (here - 1) next (is ∙ ap (λ n. last_before (has_number numbers n) (here - 1)) own) in
        (walked.0, omega (arith, walked.1), walked.2)

  -- a walk back from a position that doesn't pass
  pub walk-back : (xs : List X) (here next : ℕ) → 0 < here → at xs (here - 1) ≡ false → last_before (at xs) (here - 1) ≡ last_before (at xs) next
      → last_before (at xs) here ≡ last_before (at xs) next
  walk-back xs here next some other on =
      let one : here ≡ suc (here - 1) = omega arith in
      ap (last_before (at xs)) one ∙ ap (λ b. cond b (suc (here - 1)) (last_before (at xs) (here - 1))) other ∙ on

  -- ---- the elements that pass up to a position

  -- one more element
  front-more : (xs : List X) (place : ℕ) (x : X) → slice_get xs place ≡ Some x → place < length xs
      → filter test (take (suc place) xs) ≡ filter test (take place xs) ++ cond (test x) (x ∷ []) []
  front-more xs place x here inside =
      let one : suc place ≡ place + 1 = omega arith in
      ap (λ n. filter test (take n xs)) one ∙ filter_more test xs place x inside
      ∙ ap (λ (y : X). filter test (take place xs) ++ cond (test y) (y ∷ []) []) (get_or_from_slice_get xs place x x here)

  -- the element at a position passes if the position does
  pub at-is : (xs : List X) (place : ℕ) (x : X) → slice_get xs place ≡ Some x → at xs place ≡ test x
  at-is xs place x here = ap (λ o. option_map_or test o false) here

  -- if no position passes, no element does
  pub front-none : (xs : List X) (bound : ℕ) → bound ≤ length xs → last_before (at xs) bound ≡ 0 → filter test (take bound xs) ≡ []
  front-none xs zero inside none = refl
  front-none xs (suc place) inside none =
      elim (slice_get_cases xs place).1 [
        | inl s ↦
            elim (cases_Bool (at xs place)) [
              | inl hit ↦ let one : suc place ≡ 0 = rw hit at none in absurd (omega arith)
              | inr miss ↦
                  front-more xs place s.0 s.2 s.1
                  ∙ ap (λ b. filter test (take place xs) ++ cond b (s.0 ∷ []) []) (sym (at-is xs place s.0 s.2) ∙ miss)
                  ∙ ap (λ ys. ys ++ []) (front-none xs place (omega arith) (rw miss at none))
            ]
        | inr past ↦ absurd (omega arith)
      ]

  -- otherwise the last element that passes is at the last position
  pub front-some : (xs : List X) (bound last : ℕ) (x : X) → bound ≤ length xs → last_before (at xs) bound ≡ suc last → slice_get xs last ≡ Some x
      → filter test (take bound xs) ≡ filter test (take last xs) ++ x ∷ []
  front-some xs zero last x inside is here = absurd (omega arith)
  front-some xs (suc place) last x inside is here =
      elim (cases_Bool (at xs place)) [
        | inl hit ↦
            let own : suc place ≡ suc last = rw hit at is in
            let one : last ≡ place = omega arith in
            let there : slice_get xs place ≡ Some x = ap (slice_get xs) (sym one) ∙ here in
            front-more xs place x there (omega arith)
            ∙ ap (λ b. filter test (take place xs) ++ cond b (x ∷ []) []) (sym (at-is xs place x there) ∙ hit)
            ∙ ap (λ n. filter test (take n xs) ++ x ∷ []) (sym one)
        | inr miss ↦
            elim (slice_get_cases xs place).1 [
              | inl s ↦
                  front-more xs place s.0 s.2 s.1
                  ∙ ap (λ b. filter test (take place xs) ++ cond b (s.0 ∷ []) []) (sym (at-is xs place s.0 s.2) ∙ miss)
                  ∙ append-nil (filter test (take place xs))
                  ∙ front-some xs place last x (omega arith) (rw miss at is) here
              | inr past ↦ absurd (omega arith)
            ]
      ]

  -- ---- the first element, if no two pass

  -- the last position in a list is that in its rest, or the first
  abbrev one_or_none : Bool → ℕ
  one_or_none first = cond first 1 0

  abbrev behind : Bool → ℕ → ℕ
  behind first zero = cond first 1 0
  behind first (suc last) = suc (suc last)

  last-cons : (x : X) (xs : List X) (bound : ℕ) → last_before (at (x ∷ xs)) (suc bound) ≡ behind (test x) (last_before (at xs) bound)
  last-cons x xs zero = refl
  last-cons x xs (suc bound) =
      elim (cases_Bool (at xs bound)) [
        | inl hit ↦ rw hit refl
        | inr miss ↦ rw miss (last-cons x xs bound)
      ]

  module _ (same : X → X → Bool) (both : (a b : X) → test a ≡ true → test b ≡ true → same a b ≡ true) where
    -- an element found in the rest isn't one of these
    apart-found : (x r : X) (xs : List X) → AllByRecursion (λ y. same x y ≡ false) xs → find test xs ≡ Some r → (same x r ≡ false) × (test r ≡ true)
    apart-found x r [] apart e = cc
    apart-found x r (y ∷ ys) apart e =
        elim (cases_Bool (test y)) [
          | inl hit ↦ let own : Some y ≡ Some r = rw hit at e in let one : y ≡ r = cc in (subst (λ y. same x y ≡ false) one apart.0, subst (λ y. test y ≡ true) one hit)
          | inr miss ↦ apart-found x r ys apart.1 (rw miss at e)
        ]

    never : (b : Bool) → b ≡ true → one_or_none b ≡ 0 → ⊥
    never b hit none = let one : one_or_none true ≡ 0 = sym (ap one_or_none hit) ∙ none in absurd (omega arith)

    pub find-none : (xs : List X) → last_before (at xs) (length xs) ≡ 0 → find test xs ≡ None
    find-none [] none = refl
    find-none (x ∷ xs) none = by (find-none xs) (last_before (at xs) (length xs)) refl (sym (last-cons x xs (length xs)) ∙ none)
      where
        by : (last_before (at xs) (length xs) ≡ 0 → find test xs ≡ None) → (last : ℕ) → last_before (at xs) (length xs) ≡ last → behind (test x) (last_before (at xs) (length xs)) ≡ 0 → find test (x ∷ xs) ≡ None
        by again (suc last) e whole = let one : suc (suc last) ≡ 0 = sym (ap (behind (test x)) e) ∙ whole in absurd (omega arith)
        by again zero e whole =
            let first : one_or_none (test x) ≡ 0 = sym (ap (behind (test x)) e) ∙ whole in
            elim (cases_Bool (test x)) [
              | inl hit ↦ absurd (never (test x) hit first)
              | inr miss ↦ rw miss (again e)
            ]

    pub find-some : (xs : List X) (last : ℕ) → IsDistinct same xs → last_before (at xs) (length xs) ≡ suc last → find test xs ≡ slice_get xs last
    find-some [] last apart is = absurd (omega arith)
    find-some (x ∷ xs) last apart is = by (λ earlier e. find-some xs earlier (IsDistinct-tail same x xs apart) e) (last_before (at xs) (length xs)) refl (sym (last-cons x xs (length xs)) ∙ is)
      where
        first : (last : ℕ) → cond (test x) 1 0 ≡ suc last → find test (x ∷ xs) ≡ slice_get (x ∷ xs) last
        first last one =
            elim (cases_Bool (test x)) [
              | inl hit ↦
                  let only : 1 ≡ suc last = sym (ap (λ b. let n : ℕ = cond b 1 0 in n) hit) ∙ one in
                  let zeroth : last ≡ 0 = omega arith in
                  rw (hit, zeroth) refl
              | inr miss ↦ let never : 0 ≡ suc last = sym (ap (λ b. let n : ℕ = cond b 1 0 in n) miss) ∙ one in absurd (omega arith)
            ]

        later : ((earlier : ℕ) → last_before (at xs) (length xs) ≡ suc earlier → find test xs ≡ slice_get xs earlier) → (earlier : ℕ) → last_before (at xs) (length xs) ≡ suc earlier → find test (x ∷ xs) ≡ slice_get xs earlier
        later again earlier e =
            let found = again earlier e in
            let there = at-some xs earlier (last_before-passes (at xs) (length xs) earlier e) in
            let own = apart-found x there.0 xs (IsDistinct-head same x xs apart) (found ∙ there.1) in
            let miss : test x ≡ false = false_from_ne_true (test x) (λ hit. let one = both x there.0 hit own.1 in let none = own.0 in cc) in
            rw miss found

        by : ((earlier : ℕ) → last_before (at xs) (length xs) ≡ suc earlier → find test xs ≡ slice_get xs earlier) → (n : ℕ) → last_before (at xs) (length xs) ≡ n → behind (test x) (last_before (at xs) (length xs)) ≡ suc last → find test (x ∷ xs) ≡ slice_get (x ∷ xs) last
        by again zero e whole = first last (sym (ap (behind (test x)) e) ∙ whole)
        by again (suc earlier) e whole =
            let one : suc (suc earlier) ≡ suc last = sym (ap (behind (test x)) e) ∙ whole in
            let is_last : last ≡ suc earlier = omega arith in
            later again earlier e ∙ ap (slice_get (x ∷ xs)) (sym is_last)

-- a trade has two sides
pub two_sides : (before : List Report) (first second : Report) → are_sides ((before ++ first ∷ []) ++ second ∷ []) ≡ true → before ≡ []
two_sides [] first second sound = refl
two_sides (a ∷ []) first second sound = cc
two_sides (a ∷ b ∷ []) first second sound = cc
two_sides (a ∷ b ∷ c ∷ more) first second sound = cc
