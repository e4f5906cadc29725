-- The offer at an index, before and after a change.
use Rattle.gu_offers.proofs.Words.{◌≡◌, ◌∙◌, sym, refl, ap, ℕ, zero, suc, ◌+◌, ◌-◌, ◌<◌, ◌≤◌, Bool, true, false, List, [], ◌∷◌, ◌++◌, length, map, take, get_or, slice_get, slice_index_or, Option, Some, arith, if◌then◌else◌, filter_map, filter_map-append, slice_get-get_or}

-- what is read at an index is there
pub stands : {X : Type 0} (xs : List X) (place : ℕ) (x : X) → place < length xs → x ≡ slice_index_or xs place x → slice_get xs place ≡ Some x
stands xs place x inside at = slice_get-get_or xs place x inside ∙ ap Some (sym at)

-- there is only one element at an index
pub one : {X : Type 0} (xs : List X) (place : ℕ) (x y : X) → slice_get xs place ≡ Some x → slice_get xs place ≡ Some y → x ≡ y
one xs place x y at there = cc

-- lots that are left fit
pub left-fits : (b : Bool) (n m l : ℕ) → l ≤ (if b then 0 else n - m) → m ≤ n → m + l ≤ n
left-fits true n m l h k = omega arith
left-fits false n m l h k = omega arith

-- an element of a list of images
pub get_or-map_inside : {X : Type 0} (f : X → X) (xs : List X) (k : ℕ) (d : X) → k < length xs → get_or (map f xs) k d ≡ f (get_or xs k d)
get_or-map_inside f [] k d inside = absurd (omega arith)
get_or-map_inside f (x ∷ xs) zero d inside = refl
get_or-map_inside f (x ∷ xs) (suc k) d inside = get_or-map_inside f xs k d (omega arith)

front : {X : Type 0} (xs ys : List X) → take (length xs) (xs ++ ys) ≡ xs
front [] ys = refl
front (x ∷ xs) ys = ap (λ l. x ∷ l) (front xs ys)

-- the first part of two joined lists is the first list
pub take-front : {X : Type 0} (n : ℕ) (xs ys : List X) → n ≡ length xs → take n (xs ++ ys) ≡ xs
take-front n xs ys e = ap (λ m. take m (xs ++ ys)) e ∙ front xs ys

-- one more element that gives something
pub filter_map-one_more : {X Y : Type 0} (h : X → Option Y) (xs : List X) (x : X) (y : Y) → h x ≡ Some y → filter_map h (xs ++ x ∷ []) ≡ filter_map h xs ++ y ∷ []
filter_map-one_more h xs x y e = filter_map-append h xs (x ∷ []) ∙ ap (λ l. filter_map h xs ++ l) (rw e refl)
