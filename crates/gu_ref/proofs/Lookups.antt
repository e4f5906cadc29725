-- A look-up by hash gives the same answer as a search of the list, and a new row goes last.
use Rattle.gu_ref.proofs.Words.{◌≡◌, ◌∙◌, sym, refl, ap, Bool, false, if◌then◌else◌, List, [], ◌∷◌, ◌++◌, map, None, map-append, find, list_any, keys_of, values_of, lookup, IndexMap, keys, values, get, insert_entry}
use Rattle.std.specs.Cmp.{IsEquivalence}
use Rattle.indexmap.specs.IndexSet.{insert_key}
use Rattle.indexmap.proofs.CallerLemmas.{insert_entry-new}

module _ {K X : Type 0} (eq : K → K → Bool) (laws : IsEquivalence eq) (key : X → K) where
  -- if each row is under its own key, the row under a key is the first with that key
  pub lookup-by_key : (k : K) (entries : List (K × X)) → keys_of entries ≡ map key (values_of entries)
      → lookup (eq k) entries ≡ find (λ x. eq (key x) k) (values_of entries)
  lookup-by_key k [] keyed = refl
  lookup-by_key k (e ∷ entries) keyed =
      let own : e.0 ≡ key e.1 = cc in
      let rest : keys_of entries ≡ map key (values_of entries) = cc in
      let one : eq k e.0 ≡ eq (key e.1) k = ap (eq k) own ∙ laws.symm k (key e.1) in
      rw (one, lookup-by_key k entries rest) refl

  -- a row with a new key goes last, under its own key
  pub pushed : {S : Type 0} (kept : IndexMap K X S) (rows : List X) (x : X) (new : List (K × X))
      → values kept ≡ rows → keys kept ≡ map key (values kept) → find (λ y. eq (key y) (key x)) rows ≡ None
      → new ≡ insert_entry eq kept.entries (key x) x
      → (keys_of new ≡ map key (values_of new)) × (values_of new ≡ rows ++ x ∷ [])
  pushed kept rows x new view keyed none is =
      let absent : get eq kept (key x) ≡ None = lookup-by_key (key x) kept.entries keyed ∙ ap (find (λ y. eq (key y) (key x))) view ∙ none in
      let all : new ≡ kept.entries ++ (key x, x) ∷ [] = is ∙ insert_entry-new eq kept (key x) x absent in
      let ks : keys_of new ≡ map key (values_of kept.entries) ++ key x ∷ [] = ap keys_of all ∙ map-append (λ e. e.0) kept.entries ((key x, x) ∷ []) ∙ ap (λ l. l ++ key x ∷ []) keyed in
      let vs : values_of new ≡ values_of kept.entries ++ x ∷ [] = ap values_of all ∙ map-append (λ e. e.1) kept.entries ((key x, x) ∷ []) in
      (ks ∙ sym (ap (map key) vs ∙ map-append key (values_of kept.entries) (x ∷ [])), vs ∙ ap (λ l. l ++ x ∷ []) view)

-- a new name goes last in a set
pub inserted : {K : Type 0} (eq : K → K → Bool) → IsEquivalence eq → (kept rows : List K) (k : K) (new : List K)
    → kept ≡ rows → list_any (λ x. eq x k) rows ≡ false → new ≡ insert_key eq kept k → new ≡ rows ++ k ∷ []
inserted eq laws kept rows k new view none is =
    let absent : list_any (eq k) kept ≡ false = (λ i. list_any (λ x. laws.symm k x i) kept) ∙ ap (list_any (λ x. eq x k)) view ∙ none in
    is ∙ ap (λ b. if b then kept else kept ++ k ∷ []) absent ∙ ap (λ l. l ++ k ∷ []) view
