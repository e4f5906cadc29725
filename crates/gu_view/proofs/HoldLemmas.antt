-- Where a list first passes a test, as a path does for a cut that holds its offer back.
use Rattle.gu_view.proofs.Words.{◌≡◌, ◌≢◌, ℕ, zero, suc, ◌<◌, ◌≤◌, ◌&&◌, Bool, true, false, List, [], ◌∷◌, Some, length, slice_get, refl, sym, ap, ◌∙◌, arith, inl, inr, one-add, list_any, position_or_len, or-false, and_from, cases_Bool, or_cases, or_left, or_right, Any-from_list_any, list_any_at, slice_get_within, get_or_from_slice_get, key_eq-from, key_eq-refl, key_eq-same, position_or_len-within, CutLists, has_number, has_key, key_eq, LimitKey, Exec, Agr, Acct, Carry, Guar, is_covered, held_at, holds, step_of, ViewOffer}

-- two equivalent tests
pub same_test : (b c : Bool) → (b ≡ true → c ≡ true) → (c ≡ true → b ≡ true) → b ≡ c
same_test true true f g = refl
same_test true false f g = sym (f refl)
same_test false true f g = g refl
same_test false false f g = refl

module _ {X : Type 0} (p : X → Bool) where
  -- before the first element that passes a test none passes
  pub misses_before : (xs : List X) (i : ℕ) (x : X) → i < position_or_len p xs → slice_get xs i ≡ Some x → p x ≡ false
  misses_before [] i x before at = cc
  misses_before (y ∷ xs) zero x before at = elim (cases_Bool (p y)) [
    | inl hit ↦ absurd (omega (arith, rw hit at before))
    | inr miss ↦ let same : y ≡ x = cc in ap p (sym same) ∙ miss
  ]
  misses_before (y ∷ xs) (suc i) x before at = elim (cases_Bool (p y)) [
    | inl hit ↦ absurd (omega (arith, rw hit at before))
    | inr miss ↦ misses_before xs i x (omega (arith, rw miss at before)) at
  ]

  -- it passes
  pub hits_at : (xs : List X) (x : X) → slice_get xs (position_or_len p xs) ≡ Some x → p x ≡ true
  hits_at [] x at = cc
  hits_at (y ∷ xs) x at = elim (cases_Bool (p y)) [
    | inl hit ↦ let here : Some y ≡ Some x = rw hit at at in let same : y ≡ x = cc in ap p (sym same) ∙ hit
    | inr miss ↦ hits_at xs x (rw (miss, one-add) at at)
  ]

  -- and none that passes is before it
  pub first_hit : (xs : List X) (i : ℕ) (x : X) → slice_get xs i ≡ Some x → p x ≡ true → position_or_len p xs ≤ i
  first_hit [] i x at hit = cc
  first_hit (y ∷ xs) zero x at hit = let same : y ≡ x = cc in let here : p y ≡ true = ap p same ∙ hit in rw here (omega arith)
  first_hit (y ∷ xs) (suc i) x at hit = elim (cases_Bool (p y)) [
    | inl here ↦ rw here (omega arith)
    | inr miss ↦ rw miss (omega (arith, first_hit xs i x at hit))
  ]

-- a key at a place of a path is on it
pub on_path : (path : List LimitKey) (i : ℕ) (k : LimitKey) → slice_get path i ≡ Some k → has_key path k ≡ true
on_path path i k at = list_any_at (λ j. key_eq j k) path i k (slice_get_within path i k at) (key_eq-from _ k (get_or_from_slice_get path i k k at))

-- a key on a path that passes a test
pub any_key : (test : LimitKey → Bool) (key : LimitKey) (path : List LimitKey) → has_key path key ≡ true → test key ≡ true → list_any test path ≡ true
any_key test key [] on passes = cc
any_key test key (k ∷ path) on passes = elim (or_cases (key_eq k key) (has_key path key) on) [
  | inl here ↦ or_left (test k) (list_any test path) (ap test (key_eq-same k key here) ∙ passes)
  | inr there ↦ or_right (test k) (list_any test path) (any_key test key path there passes)
]

-- only an agreement's key holds an offer back by the offer's own number
pub holds_by_key : (cut : CutLists) (o : ViewOffer) (k : LimitKey) → step_of k ≢ 1 → holds cut o k ≡ has_key cut.keys k
holds_by_key cut o (Agr x) apart = absurd (apart refl)
holds_by_key cut o (Exec x) apart = or-false (has_key cut.keys (Exec x))
holds_by_key cut o (Acct x) apart = or-false (has_key cut.keys (Acct x))
holds_by_key cut o (Carry x) apart = or-false (has_key cut.keys (Carry x))
holds_by_key cut o (Guar x) apart = or-false (has_key cut.keys (Guar x))

-- a covered offer is held back on its path
pub held : (cut : CutLists) (o : ViewOffer) → slice_get o.path 1 ≡ Some (Agr o.agreement) → is_covered cut o ≡ true → held_at cut o < length o.path
held cut o own covered =
    position_or_len-within (holds cut o) o.path (elim (or_cases (has_number cut.offers o.number) (list_any (has_key cut.keys) o.path) covered) [
      | inl itself ↦
          let k = Agr o.agreement in
          let here : holds cut o k ≡ true = or_right (has_key cut.keys k) (key_eq k k && has_number cut.offers o.number) (and_from (key_eq k k) (has_number cut.offers o.number) (key_eq-refl k) itself) in
          list_any_at (holds cut o) o.path 1 k (slice_get_within o.path 1 k own) (ap (holds cut o) (get_or_from_slice_get o.path 1 k k own) ∙ here)
      | inr by_key ↦
          let (i, k, i_in, at, hit) = Any-from_list_any (has_key cut.keys) o.path by_key in
          list_any_at (holds cut o) o.path i k i_in (ap (holds cut o) at ∙ or_left (has_key cut.keys k) (key_eq k (Agr o.agreement) && has_number cut.offers o.number) hit)
    ])
