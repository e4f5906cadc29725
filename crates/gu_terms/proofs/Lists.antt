-- Facts about lists: elements and pairs, the first that passes a test, tests of all, and sums.
use Rattle.std.proofs.Common.{◌≡◌, ◌≢◌, ℕ, zero, suc, ◌+◌, ◌*◌, ◌<◌, ◌≤◌, ◌||◌, not, Bool, true, false, cond, List, [], ◌∷◌, Some, None, length, map, take, drop, set, get_or, refl, sym, ap, ◌∙◌, arith, inl, inr, take-append-drop, get_or-set_same, get_or-set_other}
use Rattle.std.specs.Prelude.{AllPairs, sum_by}
use Rattle.std.specs.List.{AllByRecursion, list_any, position_or_len, flat_map, find, zip}
use Rattle.std.specs.Option.{option_map}
use Rattle.std.proofs.lemmas.Bool.{cases_Bool, cases_eq, or_parts}
use Rattle.std.proofs.lemmas.List.{take_more, take_all, drop_more, same_lists, length-set, length-map, get_or-map}
use Rattle.std.proofs.lemmas.List.Elements.{All-from_recursion, recursion_from_All}
use Rattle.std.proofs.lemmas.List.Folds.{find-append, list_any-append}
use Rattle.std.proofs.lemmas.List.Sums.{sum_by-cons}

-- a property of each pair of elements, the earlier first, by recursion
abbrev pub Later : {X : Type 0} → (X → X → Type 0) → List X → Type 0
Later R [] = Unit {0}
Later R (x ∷ xs) = AllByRecursion (R x) xs × Later R xs

module _ {X : Type 0} (R : X → X → Type 0) where
  pub Later-from_AllPairs : (xs : List X) → AllPairs R xs → Later R xs
  Later-from_AllPairs [] h = tt
  Later-from_AllPairs (x ∷ xs) h =
      (recursion_from_All (R x) xs (λ k d inside. h 0 (suc k) d (omega arith) (omega arith)), Later-from_AllPairs xs (λ i j d before inside. h (suc i) (suc j) d (omega arith) (omega arith)))

  pub AllPairs-from_Later : (xs : List X) → Later R xs → AllPairs R xs
  AllPairs-from_Later [] h i j d before inside = absurd (omega arith)
  AllPairs-from_Later (x ∷ xs) h zero zero d before inside = absurd (omega arith)
  AllPairs-from_Later (x ∷ xs) h zero (suc j) d before inside = All-from_recursion (R x) xs h.0 j d (omega arith)
  AllPairs-from_Later (x ∷ xs) h (suc i) zero d before inside = absurd (omega arith)
  AllPairs-from_Later (x ∷ xs) h (suc i) (suc j) d before inside = AllPairs-from_Later xs h.1 i j d (omega arith) (omega arith)

-- a property of each element implies another
pub along : {X : Type 0} (P Q : X → Type 0) (xs : List X) → ((x : X) → P x → Q x) → AllByRecursion P xs → AllByRecursion Q xs
along P Q [] f h = tt
along P Q (x ∷ xs) f h = (f x h.0, along P Q xs f h.1)

-- two properties imply a third
pub along2 : {X : Type 0} (P Q R : X → Type 0) (xs : List X) → ((x : X) → P x → Q x → R x) → AllByRecursion P xs → AllByRecursion Q xs → AllByRecursion R xs
along2 P Q R [] f h k = tt
along2 P Q R (x ∷ xs) f h k = (f x h.0 k.0, along2 P Q R xs f h.1 k.1)

-- a property of every value is one of each element
pub every : {X : Type 0} (P : X → Type 0) (xs : List X) → ((x : X) → P x) → AllByRecursion P xs
every P [] h = tt
every P (x ∷ xs) h = (h x, every P xs h)

module _ {X : Type 0} (p : X → Bool) where
  -- a search in a loop continues, ends, or has reached the end
  pub find_more : (xs : List X) (i : ℕ) (d : X) → i < length xs → find p (take i xs) ≡ None → p (get_or xs i d) ≡ false → find p (take (i + 1) xs) ≡ None
  find_more xs i d inside none miss = rw (take_more xs i d inside, find-append p (take i xs) (get_or xs i d ∷ []), none, miss) refl

  pub find_here : (xs : List X) (i : ℕ) (d : X) → i < length xs → find p (take i xs) ≡ None → p (get_or xs i d) ≡ true → find p xs ≡ Some (get_or xs i d)
  find_here xs i d inside none hit =
      ap (find p) (sym (take-append-drop i xs))
      ∙ find-append p (take i xs) (drop i xs)
      ∙ rw (none, drop_more xs i d inside, hit) refl

  pub find_all : (xs : List X) (n : ℕ) → length xs ≤ n → find p (take n xs) ≡ None → find p xs ≡ None
  find_all xs n long none = rw (take_all n xs long) at none

  -- the same, in the form in which a loop reads its element
  pub found_here : {Y : Type 0} (f : X → Y) (xs : List X) (i : ℕ) (x : X) → i < length xs → x ≡ get_or xs i x → find p (take i xs) ≡ None → p x ≡ true → Some (f x) ≡ option_map f (find p xs)
  found_here f xs i x inside is none hit =
      ap (λ x. Some (f x)) is ∙ sym (ap (option_map f) (find_here xs i x inside none (rw is at hit)))

  pub found_later : (xs : List X) (i : ℕ) (x : X) → i < length xs → x ≡ get_or xs i x → find p (take i xs) ≡ None → p x ≡ false → find p (take (i + 1) xs) ≡ None
  found_later xs i x inside is none miss = find_more xs i x inside none (ap p (sym is) ∙ miss)

  -- a search that finds nothing, and the elements that it passed over
  pub find_none : (xs : List X) → find p xs ≡ None → AllByRecursion (λ x. p x ≡ false) xs
  find_none [] h = tt
  find_none (x ∷ xs) h =
      elim (cases_Bool (p x)) [
        | inl hit ↦ let found : Some x ≡ None = rw hit at h in cc
        | inr miss ↦ (miss, find_none xs (rw miss at h))
      ]

  pub none_found : (xs : List X) → AllByRecursion (λ x. p x ≡ false) xs → find p xs ≡ None
  none_found [] h = refl
  none_found (x ∷ xs) h = rw h.0 (none_found xs h.1)

  pub any_none : (xs : List X) → list_any p xs ≡ false → AllByRecursion (λ x. p x ≡ false) xs
  any_none [] h = tt
  any_none (x ∷ xs) h = ((or_parts (p x) (list_any p xs) h).0, any_none xs (or_parts (p x) (list_any p xs) h).1)

  pub none_any : (xs : List X) → AllByRecursion (λ x. p x ≡ false) xs → list_any p xs ≡ false
  none_any [] h = refl
  none_any (x ∷ xs) h = rw (h.0, none_any xs h.1) refl

module _ {X Y : Type 0} where
  -- a function's value for each element, if one element is rewritten
  pub marked : (f g : X → Y) (xs : List X) (place : ℕ) (mark : Y) (d : X) → place < length xs → g (get_or xs place d) ≡ mark
      → ((k : ℕ) → k < length xs → k ≢ place → g (get_or xs k d) ≡ f (get_or xs k d)) → set (map f xs) place mark ≡ map g xs
  marked f g xs place mark d inside here others =
      let long : length (set (map f xs) place mark) ≡ length xs = length-set (map f xs) place mark ∙ length-map xs f in
      same_lists (set (map f xs) place mark) (map g xs) (long ∙ sym (length-map xs g)) (λ k b within. at k b (omega arith))
    where
      at : (k : ℕ) (b : Y) → k < length xs → get_or (set (map f xs) place mark) k b ≡ get_or (map g xs) k b
      at k b within =
          let mine : get_or (map g xs) k b ≡ g (get_or xs k d) = get_or-map g xs k d b within in
          elim (cases_eq k place) [
            | inl same ↦
                let room : place < length (map f xs) = omega (arith, length-map xs f) in
                rw (mine, same, here) (get_or-set_same (map f xs) place mark b room)
            | inr other ↦ rw (mine, others k within other, get_or-set_other (map f xs) place k mark b other) (get_or-map f xs k d b within)
          ]

module _ {X : Type 0} where
  -- two tests that agree find the same
  pub list_any-agree : (p q : X → Bool) (xs : List X) → ((x : X) → p x ≡ q x) → list_any p xs ≡ list_any q xs
  list_any-agree p q [] h = refl
  list_any-agree p q (x ∷ xs) h = rw (h x, list_any-agree p q xs h) refl

  pub position_or_len-agree : (p q : X → Bool) (xs : List X) → ((x : X) → p x ≡ q x) → position_or_len p xs ≡ position_or_len q xs
  position_or_len-agree p q [] h = refl
  position_or_len-agree p q (x ∷ xs) h = rw (h x, position_or_len-agree p q xs h) refl

  -- an element that passes a test is at some index
  pub position_or_len-within : (p : X → Bool) (xs : List X) → list_any p xs ≡ true → position_or_len p xs < length xs
  position_or_len-within p [] h = cc
  position_or_len-within p (x ∷ xs) h =
      elim (cases_Bool (p x)) [
        | inl here ↦ rw here (omega arith)
        | inr not_here ↦ rw not_here (omega (arith, position_or_len-within p xs (rw not_here at h)))
      ]

module _ {X Y : Type 0} (f : X → Y) where
  pub list_any-map : (p : Y → Bool) (xs : List X) → list_any p (map f xs) ≡ list_any (λ x. p (f x)) xs
  list_any-map p [] = refl
  list_any-map p (x ∷ xs) = ap (λ b. p (f x) || b) (list_any-map p xs)

  pub position_or_len-map : (p : Y → Bool) (xs : List X) → position_or_len p (map f xs) ≡ position_or_len (λ x. p (f x)) xs
  position_or_len-map p [] = refl
  position_or_len-map p (x ∷ xs) = ap (λ n. cond (not (p (f x))) (1 + n) 0) (position_or_len-map p xs)

-- an element of joined lists is in one of them
pub list_any-flat_map : {X Y : Type 0} (f : X → List Y) (p : Y → Bool) (xs : List X) → list_any p (flat_map f xs) ≡ list_any (λ x. list_any p (f x)) xs
list_any-flat_map f p [] = refl
list_any-flat_map f p (x ∷ xs) = list_any-append p (f x) (flat_map f xs) ∙ ap (λ b. list_any p (f x) || b) (list_any-flat_map f p xs)

-- a number or 0, depending on a test, is at most the number
pub part-le : (b : Bool) (n : ℕ) → cond b n 0 ≤ n
part-le true n = omega arith
part-le false n = omega arith

module _ {X : Type 0} where
  -- a sum of zeros
  pub sum_by-zeros : (xs : List X) → sum_by (λ (x : X). 0) xs ≡ 0
  sum_by-zeros [] = refl
  sum_by-zeros (x ∷ xs) = sum_by-zeros xs

  -- the sum of two sums
  pub sum_by-add : (f g : X → ℕ) (xs : List X) → sum_by (λ x. f x + g x) xs ≡ sum_by f xs + sum_by g xs
  sum_by-add f g [] = refl
  sum_by-add f g (x ∷ xs) = omega (arith, sum_by-add f g xs, sum_by-cons (λ x. f x + g x) x xs, sum_by-cons f x xs, sum_by-cons g x xs)

  -- a sum with larger terms is no smaller
  pub sum_by-mono : (f g : X → ℕ) (xs : List X) → AllByRecursion (λ x. f x ≤ g x) xs → sum_by f xs ≤ sum_by g xs
  sum_by-mono f g [] h = omega arith
  sum_by-mono f g (x ∷ xs) h = omega (arith, h.0, sum_by-mono f g xs h.1, sum_by-cons f x xs, sum_by-cons g x xs)

  -- sums of equal terms are equal
  pub sum_by-agree : (f g : X → ℕ) (xs : List X) → ((x : X) → f x ≡ g x) → sum_by f xs ≡ sum_by g xs
  sum_by-agree f g [] h = refl
  sum_by-agree f g (x ∷ xs) h = omega (arith, h x, sum_by-agree f g xs h, sum_by-cons f x xs, sum_by-cons g x xs)

  -- a sum next to marks: at most the maximum for each element, and the sum over the marked ones
  pub sum_by-zip-le : (f : X → ℕ) (most : ℕ) (xs : List X) (marks : List Bool) → AllByRecursion (λ x. f x ≤ most) xs → sum_by (λ (p : X × Bool). cond p.1 (f p.0) 0) (zip xs marks) ≤ length xs * most
  sum_by-zip-le f most [] marks h = omega arith
  sum_by-zip-le f most (x ∷ xs) [] h = omega arith
  sum_by-zip-le f most (x ∷ xs) (mark ∷ marks) h =
      let rest = sum_by-zip-le f most xs marks h.1 in
      let product : suc (length xs) * most ≡ length xs * most + most = grind arith in
      omega (arith, rest, h.0, part-le mark (f x), product, sum_by-cons (λ (p : X × Bool). cond p.1 (f p.0) 0) (x, mark) (zip xs marks))

  pub sum_by-zip : (f : X → ℕ) (test : X → Bool) (xs : List X) → sum_by (λ (p : X × Bool). cond p.1 (f p.0) 0) (zip xs (map test xs)) ≡ sum_by (λ x. cond (test x) (f x) 0) xs
  sum_by-zip f test [] = refl
  sum_by-zip f test (x ∷ xs) =
      omega (arith, sum_by-zip f test xs, sum_by-cons (λ (p : X × Bool). cond p.1 (f p.0) 0) (x, test x) (zip xs (map test xs)), sum_by-cons (λ x. cond (test x) (f x) 0) x xs)

-- a table summed by rows or by columns
pub sum_by-swap : {X Y : Type 0} (f : X → Y → ℕ) (xs : List X) (ys : List Y) → sum_by (λ x. sum_by (λ y. f x y) ys) xs ≡ sum_by (λ y. sum_by (λ x. f x y) xs) ys
sum_by-swap f [] ys = sym (sum_by-zeros ys)
sum_by-swap f (x ∷ xs) ys =
    sum_by-cons (λ x. sum_by (λ y. f x y) ys) x xs
    ∙ ap (λ n. sum_by (λ y. f x y) ys + n) (sum_by-swap f xs ys)
    ∙ sym (sum_by-add (λ y. f x y) (λ y. sum_by (λ x. f x y) xs) ys)
    ∙ sum_by-agree (λ y. f x y + sum_by (λ x. f x y) xs) (λ y. sum_by (λ x. f x y) (x ∷ xs)) ys (λ y. sym (sum_by-cons (λ x. f x y) x xs))
