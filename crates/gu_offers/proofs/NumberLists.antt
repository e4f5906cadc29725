-- Ascending lists of numbers: one more, and one fewer.
use Rattle.gu_offers.proofs.Words.{◌≡◌, ◌≢◌, ◌∙◌, sym, refl, ap, ℕ, zero, suc, ◌+◌, ◌<◌, ◌≤◌, ◌==◌, Bool, true, false, not, List, [], ◌∷◌, ◌++◌, length, get_or, filter, nat_lt, ◌⊎◌, inl, inr, Ok, Err, arith, AllByRecursion, range_with_len, remove, IsAscending}
use Rattle.std.specs.List.Sorted.{IsBinarySearchResult}
use Rattle.std.specs.Ordering.{nat_cmp}
use Rattle.std.proofs.lemmas.Bool.{ltb-false, ltb-true}
use Rattle.std.proofs.lemmas.Bool.Decides.{Decides-eqb}
use Rattle.std.proofs.lemmas.List.Sorted.{searched}

cases_lt : (k i : ℕ) → (k < i) ⊎ (i ≤ k)
cases_lt k i = by (nat_lt k i) refl
  where
    by : (b : Bool) → nat_lt k i ≡ b → (k < i) ⊎ (i ≤ k)
    by true e = inl (ltb-true k i e)
    by false e = inr (ltb-false k i e)

-- one more number
pub range_with_len-suc : (first n : ℕ) → range_with_len first (suc n) ≡ range_with_len first n ++ (first + n) ∷ []
range_with_len-suc first zero = let e : first ≡ first + 0 = omega arith in ap (λ n. n ∷ []) e
range_with_len-suc first (suc n) =
    let e : first + 1 + n ≡ first + suc n = omega arith in
    ap (λ l. first ∷ l) (range_with_len-suc (first + 1) n ∙ ap (λ m. range_with_len (first + 1) n ++ m ∷ []) e)

-- a property of each number holds of the one at an index
pub at_place : (P : ℕ → Type 0) (xs : List ℕ) (i : ℕ) → AllByRecursion P xs → i < length xs → P (get_or xs i 0)
at_place P [] i all inside = absurd (omega arith)
at_place P (x ∷ xs) zero all inside = all.0
at_place P (x ∷ xs) (suc i) all inside = at_place P xs i all.1 (omega arith)

-- an earlier number is no greater
pub rising : (xs : List ℕ) → IsAscending xs → (i j : ℕ) → i ≤ j → j < length xs → get_or xs i 0 ≤ get_or xs j 0
rising [] up i j before inside = absurd (omega arith)
rising (x ∷ xs) up zero zero before inside = omega arith
rising (x ∷ xs) up zero (suc j) before inside = let below = at_place (λ m. x < m) xs j up.0 (omega arith) in omega (arith, below)
rising (x ∷ xs) up (suc i) zero before inside = absurd (omega arith)
rising (x ∷ xs) up (suc i) (suc j) before inside = rising xs up.1 i j (omega arith) (omega arith)

-- the numbers other than this one
abbrev pub without : ℕ → List ℕ → List ℕ
without number xs = filter (λ other. not (other == number)) xs

pub other_than : (x number : ℕ) → x ≢ number → not (x == number) ≡ true
other_than x number apart = by (x == number) refl
  where
    by : (b : Bool) → (x == number) ≡ b → not b ≡ true
    by true e = absurd (apart ((Decides-eqb x number).0 e))
    by false e = refl

pub own_number : (number : ℕ) → not (number == number) ≡ false
own_number number = ap not ((Decides-eqb number number).1 refl)

-- if none of them is this one, all stay
pub without-absent : (number : ℕ) (xs : List ℕ) → ((k : ℕ) → k < length xs → get_or xs k 0 ≢ number) → without number xs ≡ xs
without-absent number [] apart = refl
without-absent number (x ∷ xs) apart =
    rw (other_than x number (apart 0 (omega arith))) (ap (λ l. x ∷ l) (without-absent number xs (λ k inside. apart (suc k) (omega arith))))

-- the one at an index is removed
pub remove-without : (number : ℕ) (xs : List ℕ) (i : ℕ) → IsAscending xs → i < length xs → get_or xs i 0 ≡ number → remove xs i ≡ without number xs
remove-without number [] i up inside at = absurd (omega arith)
remove-without number (x ∷ xs) zero up inside at =
    let rest : without number xs ≡ xs = without-absent number xs (λ k here same. let below = at_place (λ m. x < m) xs k up.0 here in omega (arith, at, same, below)) in
    rw (at, own_number number) (sym rest)
remove-without number (x ∷ xs) (suc i) up inside at =
    let below : x < get_or xs i 0 = at_place (λ m. x < m) xs i up.0 (omega arith) in
    let apart : x ≢ number = λ same. omega (arith, same, at, below) in
    rw (other_than x number apart) (ap (λ l. x ∷ l) (remove-without number xs i up.1 (omega arith) at))

-- what a search finds is removed
pub found-without : (number : ℕ) (xs : List ℕ) (i : ℕ) → IsAscending xs → IsBinarySearchResult (λ y. nat_cmp y number) xs (Ok i) → remove xs i ≡ without number xs
found-without number xs i up found =
    let at = searched xs number (Ok i) found (rising xs up) in
    remove-without number xs i up at.0 at.1

-- what it doesn't find isn't there
pub unfound-without : (number : ℕ) (xs : List ℕ) (i : ℕ) → IsAscending xs → IsBinarySearchResult (λ y. nat_cmp y number) xs (Err i) → without number xs ≡ xs
unfound-without number xs i up missed =
    let at = searched xs number (Err i) missed (rising xs up) in
    without-absent number xs (λ k inside same.
    elim (cases_lt k i) [ inl before ↦ omega (arith, at.1 k before, same) | inr after ↦ omega (arith, at.2 k after inside, same) ])

-- if all of them are above this one, all stay
pub without-above : (number : ℕ) (xs : List ℕ) → AllByRecursion (λ m. number < m) xs → without number xs ≡ xs
without-above number [] above = refl
without-above number (x ∷ xs) above =
    let apart : x ≢ number = λ same. omega (arith, same, above.0) in
    rw (other_than x number apart) (ap (λ l. x ∷ l) (without-above number xs above.1))
