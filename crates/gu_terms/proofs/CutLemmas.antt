-- Sets rebuilt from a list that names each member once.
use Rattle.std.proofs.Common.{◌≡◌, ℕ, ◌+◌, ◌<◌, ◌||◌, Bool, false, cond, List, [], ◌∷◌, ◌++◌, length, get_or, take, drop, ap, sym, subst, ◌∙◌, refl, take-append-drop}
use Rattle.std.specs.Cmp.{IsEquivalence}
use Rattle.std.specs.List.{AllByRecursion, IsDistinct, list_any}
use Rattle.std.proofs.lemmas.List.{take_more, drop_more}
use Rattle.indexmap.specs.IndexSet.{insert_key}

-- a later element differs from each earlier one
later : {K : Type 0} (eq : K → K → Bool) (y : K) (before after : List K) (x : K) → AllByRecursion (λ z. eq y z ≡ false) (before ++ x ∷ after) → eq y x ≡ false
later eq y [] after x h = h.0
later eq y (z ∷ zs) after x h = later eq y zs after x h.1

module _ {K : Type 0} {eq : K → K → Bool} (laws : IsEquivalence eq) where
  -- so no earlier element is the same
  absent : (before after : List K) (x : K) → IsDistinct eq (before ++ x ∷ after) → list_any (eq x) before ≡ false
  unfolding IsDistinct
  absent [] after x once = refl
  absent (y ∷ ys) after x once =
      let here : eq x y ≡ false = laws.symm x y ∙ later eq y ys after x once.0 in
      ap (λ b. b || list_any (eq x) ys) here ∙ absent ys after x once.1

  -- a set of the first members takes in the next one
  pub insert_next : (xs : List K) (i : ℕ) (x : K) → i < length xs → x ≡ get_or xs i x → IsDistinct eq xs → insert_key eq (take i xs) x ≡ take (i + 1) xs
  insert_next xs i x inside is once =
      let parts : take i xs ++ x ∷ drop (i + 1) xs ≡ xs =
      ap (λ y. take i xs ++ y ∷ drop (i + 1) xs) is ∙ ap (λ ys. take i xs ++ ys) (sym (drop_more xs i x inside)) ∙ take-append-drop i xs in
      let new : list_any (eq x) (take i xs) ≡ false = absent (take i xs) (drop (i + 1) xs) x (subst (IsDistinct eq) (sym parts) once) in
      ap (λ b. cond b (take i xs) (take i xs ++ x ∷ [])) new ∙ ap (λ y. take i xs ++ y ∷ []) is ∙ sym (take_more xs i x inside)
