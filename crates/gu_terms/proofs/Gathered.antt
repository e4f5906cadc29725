-- The effect of one more item.
use Rattle.std.proofs.Common.{◌≡◌, ℕ, List, [], ◌∷◌, ◌++◌, zero, suc, take, slice_get, Option, Some, None, refl, ap, subst, ◌∙◌}
use Rattle.std.specs.List.{cons_option, filter_map, last_or}
use Rattle.std.specs.Option.{option_or, option_to_list}
use Rattle.std.proofs.lemmas.List.Elements.{filter_map-append}

-- the last element of a longer list
pub last_or-last : {X : Type 0} (o : Option X) (xs : List X) (x : X) → last_or o (xs ++ x ∷ []) ≡ Some x
last_or-last o [] x = refl
last_or-last o (z ∷ xs) x = last_or-last (Some z) xs x

-- the last element, if one more may have been added
pub last_or-given : {X : Type 0} (o : Option X) (xs : List X) (given : Option X) → last_or o (xs ++ option_to_list given) ≡ option_or given (last_or o xs)
last_or-given o xs (Some x) = last_or-last o xs x
last_or-given o [] None = refl
last_or-given o (z ∷ xs) None = last_or-given (Some z) xs None

one_given : {Y : Type 0} (o : Option Y) → cons_option o [] ≡ option_to_list o
one_given (Some y) = refl
one_given None = refl

-- what one more item gives comes after what the others give
pub filter_map-last : {X Y : Type 0} (given : X → Option Y) (items : List X) (item : X) → filter_map given (items ++ item ∷ []) ≡ filter_map given items ++ option_to_list (given item)
filter_map-last given items item = filter_map-append given items (item ∷ []) ∙ ap (λ ys. filter_map given items ++ ys) (one_given (given item))

-- a property of each item and those before it still holds with one more item
pub push_each : {X : Type 0} (P : List X → X → Type 0) (xs : List X) (y : X) → ((k : ℕ) (x : X) → slice_get xs k ≡ Some x → P (take k xs) x) → P xs y
    → (k : ℕ) (x : X) → slice_get (xs ++ y ∷ []) k ≡ Some x → P (take k (xs ++ y ∷ [])) x
push_each P [] y all last zero x at = let same : y ≡ x = cc in subst (P []) same last
push_each P [] y all last (suc k) x at = cc
push_each P (z ∷ zs) y all last zero x at = all zero x at
push_each P (z ∷ zs) y all last (suc k) x at = push_each (λ before. P (z ∷ before)) zs y (λ j w h. all (suc j) w h) last k x at
