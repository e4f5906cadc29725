-- The table beside the offers: the numbers of groups.
use Rattle.gu_offers.proofs.Words.{◌≡◌, ◌∙◌, refl, ap, ℕ, Bool, true, false, cond, ◌&&◌, List, [], ◌++◌, Option, Some, None, is_some, Result, Ok, Err, IsOk, OnOk, OnErr, if◌then◌else◌, option_map_or, IndexMap, get, Updates, Group, same_group}
use Rattle.gu_terms.proofs.SameNames.{same_group-true}

-- two tests that both pass
pub both : (p q : Bool) → (p && q) ≡ true → (p ≡ true) × (q ≡ true)
both true true h = (refl, refl)
both true false h = cc
both false q h = cc

-- there is nothing
pub none : {X : Type 0} (o : Option X) → is_some o ≡ false → o ≡ None
none None h = refl
none (Some x) h = cc

-- a property that holds if a call succeeds, when it does
pub of_ok : {T E : Type 0} {P : Type 0} (r : Result T E) → OnOk r P → IsOk r → P
of_ok (Ok x) p ok = p
of_ok (Err e) p ok = cc

module _ {V S : Type 0} (list : V → List ℕ) (old new : IndexMap Group V S) (group : Group) where
  -- a new group has only these numbers
  pub listed-new : (v : V) (numbers : List ℕ) → Updates same_group old new group (Some v) → list v ≡ numbers → None ≡ get same_group old group
      → (other : Group) → option_map_or list (get same_group new other) []
      ≡ (if same_group group other then option_map_or list (get same_group old other) [] ++ numbers else option_map_or list (get same_group old other) [])
  listed-new v numbers updated is none other = ap (λ o. option_map_or list o []) (updated.0 other) ∙ by (same_group group other) refl
    where
      by : (b : Bool) → same_group group other ≡ b → option_map_or list (cond b (Some v) (get same_group old other)) []
          ≡ (if b then option_map_or list (get same_group old other) [] ++ numbers else option_map_or list (get same_group old other) [])
      by true e = is ∙ ap (λ o. option_map_or list o [] ++ numbers) none ∙ (λ i. option_map_or list (get same_group old (same_group-true group other e i)) [] ++ numbers)
      by false e = refl

  -- a list rewritten as it was changes nothing
  pub listed-same : (v w : V) → Updates same_group old new group (Some w) → Some v ≡ get same_group old group → list w ≡ list v
      → (other : Group) → option_map_or list (get same_group new other) [] ≡ option_map_or list (get same_group old other) []
  listed-same v w updated was same other = ap (λ o. option_map_or list o []) (updated.0 other) ∙ by (same_group group other) refl
    where
      by : (b : Bool) → same_group group other ≡ b → option_map_or list (cond b (Some w) (get same_group old other)) [] ≡ option_map_or list (get same_group old other) []
      by true e = same ∙ ap (λ o. option_map_or list o []) was ∙ (λ i. option_map_or list (get same_group old (same_group-true group other e i)) [])
      by false e = refl

-- what a refusal leaves, restated
pub on_err : {T E : Type 0} (r : Result T E) (P Q : Type 0) → (P → Q) → OnErr r P → OnErr r Q
on_err (Ok x) P Q f p = p
on_err (Err e) P Q f p = f p
