-- How a change of one row, or more rows, affects the numbers of open offers.
use Rattle.gu_offers.proofs.Words.{◌≡◌, ◌≢◌, ◌∙◌, sym, refl, ap, subst, ℕ, zero, suc, ◌+◌, ◌<◌, ◌≤◌, ◌==◌, Bool, true, false, not, cond, List, [], ◌∷◌, ◌++◌, length, set, slice_get, Some, arith, AllByRecursion, Group, IsAscending, Row, is_open_in, numbers_from}
use Rattle.gu_offers.proofs.NumberLists.{other_than, own_number, without, without-above}

module _ {X : Type 0} (P : X → Type 0) where
  -- a property of each element holds of the one at an index
  pub all-at : (xs : List X) (place : ℕ) (x : X) → AllByRecursion P xs → slice_get xs place ≡ Some x → P x
  all-at [] place x all at = cc
  all-at (y ∷ xs) zero x all at = let one : y ≡ x = cc in subst P one all.0
  all-at (y ∷ xs) (suc place) x all at = all-at xs place x all.1 at

  -- and still holds of each after one is replaced by another with it
  pub all-set : (xs : List X) (place : ℕ) (x : X) → AllByRecursion P xs → P x → AllByRecursion P (set xs place x)
  all-set [] place x all one = tt
  all-set (y ∷ xs) zero x all one = (one, all.1)
  all-set (y ∷ xs) (suc place) x all one = (all.0, all-set xs place x all.1 one)

  -- and holds of each in both lists joined
  pub all-append : (xs ys : List X) → AllByRecursion P xs → AllByRecursion P ys → AllByRecursion P (xs ++ ys)
  all-append [] ys all more = more
  all-append (x ∷ xs) ys all more = (all.0, all-append xs ys all.1 more)

  -- and implies another property
  pub all-imply : (Q : X → Type 0) → ((x : X) → P x → Q x) → (xs : List X) → AllByRecursion P xs → AllByRecursion Q xs
  all-imply Q f [] all = tt
  all-imply Q f (x ∷ xs) all = (f x all.0, all-imply Q f xs all.1)

module _ (group : Group) where
  -- the numbers start at the first
  pub numbers-within : (n : ℕ) (rows : List Row) → AllByRecursion (λ m. (n ≤ m) × (m < n + length rows)) (numbers_from n rows group)
  numbers-within n [] = tt
  numbers-within n (r ∷ rows) =
      by (is_open_in group r) (all-imply (λ m. (n + 1 ≤ m) × (m < n + 1 + length rows)) (λ m. (n ≤ m) × (m < n + length (r ∷ rows))) (λ m h. (omega arith, omega arith))
      (numbers_from (n + 1) rows group) (numbers-within (n + 1) rows))
    where
      by : (b : Bool) → AllByRecursion (λ m. (n ≤ m) × (m < n + length (r ∷ rows))) (numbers_from (n + 1) rows group)
          → AllByRecursion (λ m. (n ≤ m) × (m < n + length (r ∷ rows))) (cond b (n ∷ numbers_from (n + 1) rows group) (numbers_from (n + 1) rows group))
      by true rest = ((omega arith, omega arith), rest)
      by false rest = rest

  -- they ascend
  pub numbers-ascend : (n : ℕ) (rows : List Row) → IsAscending (numbers_from n rows group)
  numbers-ascend n [] = tt
  numbers-ascend n (r ∷ rows) =
      by (is_open_in group r)
      (all-imply (λ m. (n + 1 ≤ m) × (m < n + 1 + length rows)) (λ m. n < m) (λ m h. omega arith) (numbers_from (n + 1) rows group) (numbers-within (n + 1) rows))
      (numbers-ascend (n + 1) rows)
    where
      by : (b : Bool) → AllByRecursion (λ m. n < m) (numbers_from (n + 1) rows group) → IsAscending (numbers_from (n + 1) rows group)
          → IsAscending (cond b (n ∷ numbers_from (n + 1) rows group) (numbers_from (n + 1) rows group))
      by true above up = (above, up)
      by false above up = up

  -- a row that is as open as before leaves them unchanged
  pub numbers-same : (n : ℕ) (rows : List Row) (place : ℕ) (old new : Row) → slice_get rows place ≡ Some old → is_open_in group new ≡ is_open_in group old
      → numbers_from n (set rows place new) group ≡ numbers_from n rows group
  numbers-same n [] place old new at same = refl
  numbers-same n (r ∷ rows) zero old new at same =
      let one : r ≡ old = cc in
      ap (λ b. cond b (n ∷ numbers_from (n + 1) rows group) (numbers_from (n + 1) rows group)) (same ∙ ap (is_open_in group) (sym one))
  numbers-same n (r ∷ rows) (suc place) old new at same =
      ap (λ l. cond (is_open_in group r) (n ∷ l) l) (numbers-same (n + 1) rows place old new at same)

  -- closing a row removes its number
  pub numbers-closed : (n : ℕ) (rows : List Row) (place : ℕ) (old new : Row) → slice_get rows place ≡ Some old → is_open_in group new ≡ false
      → numbers_from n (set rows place new) group ≡ without (n + place) (numbers_from n rows group)
  numbers-closed n [] place old new at shut = refl
  numbers-closed n (r ∷ rows) zero old new at shut =
      let rest : without n (numbers_from (n + 1) rows group) ≡ numbers_from (n + 1) rows group =
      without-above n (numbers_from (n + 1) rows group)
      (all-imply (λ m. (n + 1 ≤ m) × (m < n + 1 + length rows)) (λ m. n < m) (λ m h. omega arith) (numbers_from (n + 1) rows group) (numbers-within (n + 1) rows)) in
      let here : n + 0 ≡ n = omega arith in
      ap (λ b. cond b (n ∷ numbers_from (n + 1) rows group) (numbers_from (n + 1) rows group)) shut
      ∙ by (is_open_in group r) rest
      ∙ ap (λ m. without m (cond (is_open_in group r) (n ∷ numbers_from (n + 1) rows group) (numbers_from (n + 1) rows group))) (sym here)
    where
      by : (b : Bool) → without n (numbers_from (n + 1) rows group) ≡ numbers_from (n + 1) rows group
          → numbers_from (n + 1) rows group ≡ without n (cond b (n ∷ numbers_from (n + 1) rows group) (numbers_from (n + 1) rows group))
      by true rest = rw (own_number n) (sym rest)
      by false rest = sym rest
  numbers-closed n (r ∷ rows) (suc place) old new at shut =
      let later : n + 1 + place ≡ n + suc place = omega arith in
      let apart : n ≢ n + suc place = λ same. omega arith in
      ap (λ l. cond (is_open_in group r) (n ∷ l) l) (numbers-closed (n + 1) rows place old new at shut ∙ ap (λ m. without m (numbers_from (n + 1) rows group)) later)
      ∙ by (is_open_in group r) (other_than n (n + suc place) apart)
    where
      by : (b : Bool) → not (n == n + suc place) ≡ true
          → cond b (n ∷ without (n + suc place) (numbers_from (n + 1) rows group)) (without (n + suc place) (numbers_from (n + 1) rows group))
          ≡ without (n + suc place) (cond b (n ∷ numbers_from (n + 1) rows group) (numbers_from (n + 1) rows group))
      by true other = rw other refl
      by false other = refl

  -- more rows add their numbers at the end
  pub numbers-append : (n : ℕ) (rows more : List Row) → numbers_from n (rows ++ more) group ≡ numbers_from n rows group ++ numbers_from (n + length rows) more group
  numbers-append n [] more = let e : n + 0 ≡ n = omega arith in ap (λ m. numbers_from m more group) (sym e)
  numbers-append n (r ∷ rows) more =
      let e : n + 1 + length rows ≡ n + length (r ∷ rows) = omega arith in
      ap (λ l. cond (is_open_in group r) (n ∷ l) l) (numbers-append (n + 1) rows more ∙ ap (λ m. numbers_from (n + 1) rows group ++ numbers_from m more group) e)
      ∙ by (is_open_in group r) (numbers_from (n + 1) rows group) (numbers_from (n + length (r ∷ rows)) more group)
    where
      by : (b : Bool) (xs ys : List ℕ) → cond b (n ∷ (xs ++ ys)) (xs ++ ys) ≡ cond b (n ∷ xs) xs ++ ys
      by true xs ys = refl
      by false xs ys = refl
