-- Sums over lists, and over the indexes of a list.
use Rattle.gu_flow.proofs.Words.{◌≡◌, ◌≢◌, ℕ, ◌+◌, ◌<◌, ◌≤◌, ◌==◌, Bool, true, false, cond, List, [], ◌∷◌, zero, suc, length, map, refl, sym, ◌∙◌, ap, arith, subst, inl, inr, set, get_or, get_or-set_same, get_or-set_other, AllByRecursion, sum_by-cons, sum_by-agree, sum_by-zeros, same_test, places, cases_eq, ne_eqb, eq-eqb, eqb-true, cond-false, cond-true}
use Rattle.std.specs.List.{sum_by}

module _ {X : Type 0} where
  -- equal terms, given a property of each element
  pub sum_by-by : (P : X → Type 0) (f g : X → ℕ) (xs : List X) → ((x : X) → P x → f x ≡ g x) → AllByRecursion P xs → sum_by f xs ≡ sum_by g xs
  sum_by-by P f g [] same h = refl
  sum_by-by P f g (x ∷ xs) same h =
      omega (arith, same x h.0, sum_by-by P f g xs same h.1, sum_by-cons f x xs, sum_by-cons g x xs)

sum_by-map : {X Y : Type 0} (f : Y → ℕ) (g : X → Y) (xs : List X) → sum_by f (map g xs) ≡ sum_by (λ x. f (g x)) xs
sum_by-map f g [] = refl
sum_by-map f g (x ∷ xs) = omega (arith, sum_by-map f g xs, sum_by-cons f (g x) (map g xs), sum_by-cons (λ x. f (g x)) x xs)

-- a test before a sum, or before each term
pub cond-sum : {X : Type 0} (b : Bool) (f : X → ℕ) (xs : List X) → cond b (sum_by f xs) 0 ≡ sum_by (λ x. cond b (f x) 0) xs
cond-sum true f xs = refl
cond-sum false f xs = sym (sum_by-zeros xs)

pub cond-swap : (b c : Bool) (x : ℕ) → cond b (cond c x 0) 0 ≡ cond c (cond b x 0) 0
cond-swap true c x = refl
cond-swap false true x = refl
cond-swap false false x = refl

pub cond_same : (b : Bool) (x : ℕ) → cond b x x ≡ x
cond_same true x = refl
cond_same false x = refl

pub at_test : (b : Bool) (x y : ℕ) → (b ≡ true → x ≡ y) → cond b x 0 ≡ cond b y 0
at_test true x y same = same refl
at_test false x y same = refl

-- a sum over indexes, term by term
sum_places : (f : ℕ → ℕ) (n : ℕ) → sum_by f (places (suc n)) ≡ f 0 + sum_by (λ k. f (suc k)) (places n)
unfolding places
sum_places f n = sum_by-cons f 0 (map suc (places n)) ∙ ap (λ m. f 0 + m) (sum_by-map f suc (places n))

-- a sum over a list is one over its indexes
pub sum_by_place : {X : Type 0} (f : X → ℕ) (xs : List X) (d : X) → sum_by f xs ≡ sum_by (λ k. f (get_or xs k d)) (places (length xs))
unfolding places
sum_by_place f [] d = refl
sum_by_place f (x ∷ xs) d = sum_by-cons f x xs ∙ ap (λ m. f x + m) (sum_by_place f xs d) ∙ sym (sum_places (λ k. f (get_or (x ∷ xs) k d)) (length xs))

-- equal terms at each index
pub sum_places_by : (f g : ℕ → ℕ) (n : ℕ) → ((k : ℕ) → k < n → f k ≡ g k) → sum_by f (places n) ≡ sum_by g (places n)
unfolding places
sum_places_by f g zero same = refl
sum_places_by f g (suc n) same =
    omega (arith, sum_places f n, sum_places g n, same 0 (omega arith), sum_places_by (λ k. f (suc k)) (λ k. g (suc k)) n (λ k k_in. same (suc k) (omega arith)))

-- no term is larger
pub sum_places_le : (f g : ℕ → ℕ) (n : ℕ) → ((k : ℕ) → f k ≤ g k) → sum_by f (places n) ≤ sum_by g (places n)
unfolding places
sum_places_le f g zero less = omega arith
sum_places_le f g (suc n) less = omega (arith, sum_places f n, sum_places g n, less 0, sum_places_le (λ k. f (suc k)) (λ k. g (suc k)) n (λ k. less (suc k)))

pub sum_places_le_in : (f g : ℕ → ℕ) (n : ℕ) → ((k : ℕ) → k < n → f k ≤ g k) → sum_by f (places n) ≤ sum_by g (places n)
unfolding places
sum_places_le_in f g zero less = omega arith
sum_places_le_in f g (suc n) less = omega (arith, sum_places f n, sum_places g n, less 0 (omega arith), sum_places_le_in (λ k. f (suc k)) (λ k. g (suc k)) n (λ k k_in. less (suc k) (omega arith)))

-- if no term is larger and the sums are equal, the terms are
pub same_terms : (f g : ℕ → ℕ) (n : ℕ) → ((k : ℕ) → k < n → f k ≤ g k) → sum_by f (places n) ≡ sum_by g (places n) → (k : ℕ) → k < n → f k ≡ g k
unfolding places
same_terms f g zero less same k k_in = absurd (omega arith)
same_terms f g (suc n) less same zero k_in =
    omega (arith, sum_places f n, sum_places g n, same, less 0 (omega arith), sum_places_le_in (λ k. f (suc k)) (λ k. g (suc k)) n (λ k k_in. less (suc k) (omega arith)))
same_terms f g (suc n) less same (suc k) k_in =
    let rest : sum_by (λ k. f (suc k)) (places n) ≡ sum_by (λ k. g (suc k)) (places n) =
    omega (arith, sum_places f n, sum_places g n, same, less 0 (omega arith), sum_places_le_in (λ k. f (suc k)) (λ k. g (suc k)) n (λ k k_in. less (suc k) (omega arith))) in
    same_terms (λ k. f (suc k)) (λ k. g (suc k)) n (λ k k_in. less (suc k) (omega arith)) rest k (omega arith)

-- another term at one index
pub sum_places_set : (f g : ℕ → ℕ) (n k : ℕ) → k < n → ((j : ℕ) → j ≢ k → g j ≡ f j) → sum_by g (places n) + f k ≡ sum_by f (places n) + g k
unfolding places
sum_places_set f g zero k k_in same = absurd (omega arith)
sum_places_set f g (suc n) zero k_in same =
    omega (arith, sum_places f n, sum_places g n, sum_places_by (λ j. g (suc j)) (λ j. f (suc j)) n (λ j j_in. same (suc j) (omega arith)))
sum_places_set f g (suc n) (suc k) k_in same =
    omega (arith, sum_places f n, sum_places g n, same 0 (omega arith), sum_places_set (λ j. f (suc j)) (λ j. g (suc j)) n k (omega arith) (λ j other. same (suc j) (omega arith)))

test-suc : (k j : ℕ) → (suc k == suc j) ≡ (k == j)
test-suc k j = same_test (suc k == suc j) (k == j) (λ e. eq-eqb k j (let same = eqb-true (suc k) (suc j) e in omega arith)) (λ e. eq-eqb (suc k) (suc j) (ap suc (eqb-true k j e)))

-- the term at one index
pub sum_one_place : (h : ℕ → ℕ) (n k : ℕ) → k < n → sum_by (λ j. cond (k == j) (h j) 0) (places n) ≡ h k
unfolding places
sum_one_place h zero k k_in = absurd (omega arith)
sum_one_place h (suc n) zero k_in =
    let others : sum_by (λ j. cond (0 == suc j) (h (suc j)) 0) (places n) ≡ 0 = sum_places_by (λ j. cond (0 == suc j) (h (suc j)) 0) (λ j. 0) n (λ j j_in. cond-false (0 == suc j) (h (suc j)) 0 (ne_eqb 0 (suc j) (λ e. absurd (omega arith)))) ∙ sum_by-zeros (places n) in
    let here : cond (0 == 0) (h 0) 0 ≡ h 0 = cond-true (0 == 0) (h 0) 0 (eq-eqb 0 0 refl) in
    omega (arith, sum_places (λ j. cond (0 == j) (h j) 0) n)
sum_one_place h (suc n) (suc k) k_in =
    let rest : sum_by (λ j. cond (k == j) (h (suc j)) 0) (places n) ≡ h (suc k) = sum_one_place (λ j. h (suc j)) n k (omega arith) in
    let turn : sum_by (λ j. cond (suc k == suc j) (h (suc j)) 0) (places n) ≡ sum_by (λ j. cond (k == j) (h (suc j)) 0) (places n) = sum_by-agree (λ j. cond (suc k == suc j) (h (suc j)) 0) (λ j. cond (k == j) (h (suc j)) 0) (places n) (λ j. ap (λ b. cond b (h (suc j)) 0) (test-suc k j)) in
    let none : cond (suc k == 0) (h 0) 0 ≡ 0 = cond-false (suc k == 0) (h 0) 0 (ne_eqb (suc k) 0 (λ e. absurd (omega arith))) in
    omega (arith, sum_places (λ j. cond (suc k == j) (h j) 0) n)

-- a property of each element of a list in which one is replaced
pub at_set : {X : Type 0} (P : ℕ → X → Type 0) (xs : List X) (i : ℕ) (x d : X) → i < length xs → P i x → ((k : ℕ) → k ≢ i → P k (get_or xs k d)) → (k : ℕ) → P k (get_or (set xs i x) k d)
at_set P xs i x d i_in here others k = elim (cases_eq k i) [
  | inl same ↦ subst (λ j. P j (get_or (set xs i x) j d)) (sym same) (subst (P i) (sym (get_or-set_same xs i x d i_in)) here)
  | inr other ↦ subst (P k) (sym (get_or-set_other xs i k x d other)) (others k other)
]
