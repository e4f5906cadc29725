-- Searches: by one name, by two names, in a list without repeated names, and in such a list with one more element.
use Rattle.std.proofs.Common.{◌≡◌, ◌∙◌, refl, ap, Bool, true, false, cond, is_some, ◌||◌, ◌&&◌, ℕ, zero, suc, List, [], ◌∷◌, ◌++◌, slice_get, Contains, Some}
use Rattle.std.specs.List.{find, list_any, AllByRecursion, IsDistinct}
use Rattle.std.specs.Cmp.{IsEquivalence}
use Rattle.std.specs.Str.{bytes_eq}
use Rattle.std.proofs.lemmas.Cmp.{nat_list_eq_equiv}
use Rattle.std.proofs.lemmas.Option.{slice_get-get_or}

-- names are compared by their bytes
pub by_name : {K : Type 0} (name : K → List ℕ) → IsEquivalence (λ (a b : K). bytes_eq (name a) (name b))
by_name name = record {
  refl = λ a. nat_list_eq_equiv.refl (name a);
  symm = λ a b. nat_list_eq_equiv.symm (name a) (name b);
  congr = λ a b c. nat_list_eq_equiv.congr (name a) (name b) (name c);
}

both-congr : (p q r s t u : Bool) → (p ≡ true → r ≡ s) → (q ≡ true → t ≡ u) → (p && q) ≡ true → (r && t) ≡ (s && u)
both-congr true true r s t u f g h = rw (f refl, g refl) refl
both-congr true false r s t u f g h = cc
both-congr false q r s t u f g h = cc

-- pairs of names are compared by both
pub by_names : {K : Type 0} (one two : K → List ℕ) → IsEquivalence (λ (a b : K). bytes_eq (one a) (one b) && bytes_eq (two a) (two b))
by_names one two = record {
  refl = λ a. rw (nat_list_eq_equiv.refl (one a), nat_list_eq_equiv.refl (two a)) refl;
  symm = λ a b. rw (nat_list_eq_equiv.symm (one a) (one b), nat_list_eq_equiv.symm (two a) (two b)) refl;
  congr = λ a b c. both-congr _ _ _ _ _ _ (nat_list_eq_equiv.congr (one a) (one b) (one c)) (nat_list_eq_equiv.congr (two a) (two b) (two c));
}

-- a search finds something if the list has it
pub is_some-find : {X : Type 0} (test : X → Bool) (rows : List X) → is_some (find test rows) ≡ list_any test rows
is_some-find test [] = refl
is_some-find test (x ∷ rows) = elim (test x) as (λ b. is_some (cond b (Some x) (find test rows)) ≡ (b || list_any test rows)) [ true ↦ refl | false ↦ is_some-find test rows ]

neither : (p q : Bool) → (p || q) ≡ false → (p ≡ false) × (q ≡ false)
neither true q h = cc
neither false true h = cc
neither false false h = (refl, refl)

-- a list without repetitions, with one more element that it didn't have, has none
pub distinct-push : {X : Type 0} (same : X → X → Bool) (xs : List X) (x : X) → list_any (λ y. same y x) xs ≡ false → IsDistinct same xs → IsDistinct same (xs ++ x ∷ [])
unfolding IsDistinct
distinct-push same [] x h d = (tt, tt)
distinct-push {X} same (y ∷ xs) x h d =
    let p = neither (same y x) _ h in
    (apart xs d.0, distinct-push same xs x p.1 d.1)
  where
    apart : (zs : List X) → AllByRecursion (λ z. same y z ≡ false) zs → AllByRecursion (λ z. same y z ≡ false) (zs ++ x ∷ [])
    apart [] a = ((neither (same y x) _ h).0, tt)
    apart (z ∷ zs) a = (a.0, apart zs a.1)

others_apart : {X : Type 0} (same : X → X → Bool) (x : X) (rows : List X) (place : ℕ) (row : X)
    → AllByRecursion (λ y. same x y ≡ false) rows → slice_get rows place ≡ Some row → same x row ≡ false
others_apart same x [] place row all at = cc
others_apart same x (y ∷ rows) zero row all at = let e : y ≡ row = cc in rw (← e) all.0
others_apart same x (y ∷ rows) (suc place) row all at = others_apart same x rows place row all.1 at

at_place : {X : Type 0} (same : X → X → Bool) → ((x : X) → same x x ≡ true) → (rows : List X) (place : ℕ) (row : X)
    → IsDistinct same rows → slice_get rows place ≡ Some row → find (λ x. same x row) rows ≡ Some row
unfolding IsDistinct
at_place same own [] place row d at = cc
at_place same own (x ∷ rows) zero row d at =
    let e : x ≡ row = cc in
    rw (e, own row) refl
at_place same own (x ∷ rows) (suc place) row d at = rw (others_apart same x rows place row d.0 at) (at_place same own rows place row d.1 at)

-- if no two elements of a list have the same name, each is found by its own
pub found_by_own_name : {X : Type 0} (same : X → X → Bool) → ((x : X) → same x x ≡ true) → (rows : List X) (row : X)
    → IsDistinct same rows → Contains rows row → find (λ x. same x row) rows ≡ Some row
found_by_own_name same own rows row d there =
    at_place same own rows there.0 row d (slice_get-get_or rows there.0 row there.1 ∙ ap Some there.2)
