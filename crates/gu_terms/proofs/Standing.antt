-- The entry at an index of a table: a look-up finds it, and a write there is a write for its key.
use Rattle.std.proofs.Common.{◌≡◌, ◌∙◌, sym, ap, refl, inl, inr, ℕ, suc, zero, Bool, true, false, List, [], ◌∷◌, slice_get, Some}
use Rattle.std.specs.Cmp.{IsEquivalence}
use Rattle.std.specs.List.{AllByRecursion, IsDistinct}
use Rattle.std.specs.Map.{keys_of, lookup, lookup_key, set_value, values_of}
use Rattle.std.proofs.lemmas.Bool.{cases_Bool}
use Rattle.indexmap.specs.IndexMap.{set_value_at}
use Rattle.gu_terms.specs.Standing.{StandsAt}

-- keys that compare as the same are equal
module _ {K V : Type 0} (same : K → K → Bool) (laws : IsEquivalence same) (one : (a b : K) → same a b ≡ true → a ≡ b) where
  -- an entry is at its index for its own key
  pub stands-where : (entries : List (K × V)) (key found : K) (value : V) (place : ℕ) → same found key ≡ true → slice_get entries place ≡ Some (found, value) → StandsAt entries key place
  stands-where entries key found value place own here = record { value = value; here = here ∙ (λ i. Some (one found key own i, value)) }

  -- a key that is found is the one looked for
  pub found_key : (key : K) (entries : List (K × V)) (found : K) → Some found ≡ lookup_key (same key) entries → found ≡ key
  found_key key [] found is = cc
  found_key key (e ∷ entries) found is =
      elim (cases_Bool (same key e.0)) [
        | inl hit ↦ let own : Some found ≡ Some e.0 = rw hit at is in let first : found ≡ e.0 = cc in first ∙ sym (one key e.0 hit)
        | inr miss ↦ found_key key entries found (rw miss at is)
      ]

  own-at : (e : K × V) (key : K) (value : V) → Some e ≡ Some (key, value) → (same key e.0 ≡ true) × (e.1 ≡ value)
  own-at e key value here =
      let it : e ≡ (key, value) = cc in
      ((λ i. same key ((it i).0)) ∙ laws.refl key, λ i. (it i).1)

  apart : (x : K) (entries : List (K × V)) (place : ℕ) (key : K) (value : V) → AllByRecursion (λ k. same x k ≡ false) (keys_of entries)
      → slice_get entries place ≡ Some (key, value) → same x key ≡ false
  apart x [] place key value others here = cc
  apart x (e ∷ entries) zero key value others here =
      let it : e ≡ (key, value) = cc in
      (λ i. same x (sym it i).0) ∙ others.0
  apart x (e ∷ entries) (suc place) key value others here = apart x entries place key value others.1 here

  apart-first : (e : K × V) (entries : List (K × V)) (place : ℕ) (key : K) (value : V) → AllByRecursion (λ k. same e.0 k ≡ false) (keys_of entries)
      → slice_get entries place ≡ Some (key, value) → same key e.0 ≡ false
  apart-first e entries place key value others here = laws.symm key e.0 ∙ apart e.0 entries place key value others here

  lookup-at : (entries : List (K × V)) (place : ℕ) (key : K) (value : V) → IsDistinct same (keys_of entries) → slice_get entries place ≡ Some (key, value)
      → lookup (same key) entries ≡ Some value
  unfolding IsDistinct
  lookup-at [] place key value once here = cc
  lookup-at (e ∷ entries) zero key value once here = let own = own-at e key value here in rw (own.0) (ap Some own.1)
  lookup-at (e ∷ entries) (suc place) key value once here = rw (apart-first e entries place key value once.0 here) (lookup-at entries place key value once.1 here)

  written-at : (entries : List (K × V)) (place : ℕ) (key : K) (value w : V) → IsDistinct same (keys_of entries) → slice_get entries place ≡ Some (key, value)
      → set_value_at entries place w ≡ set_value (same key) entries w
  unfolding IsDistinct
  written-at [] place key value w once here = cc
  written-at (e ∷ entries) zero key value w once here = rw ((own-at e key value here).0) refl
  written-at (e ∷ entries) (suc place) key value w once here =
      rw (apart-first e entries place key value once.0 here) (ap (λ es. e ∷ es) (written-at entries place key value w once.1 here))

  value-at : (entries : List (K × V)) (place : ℕ) (e : K × V) → slice_get entries place ≡ Some e → slice_get (values_of entries) place ≡ Some e.1
  value-at [] place e h = cc
  value-at (first ∷ entries) zero e h = let it : first ≡ e = cc in λ i. Some (it i).1
  value-at (first ∷ entries) (suc place) e h = value-at entries place e h

  module _ (entries : List (K × V)) (key : K) (place : ℕ) (stands : StandsAt entries key place) where
    -- there is an entry at its index
    pub value-standing : slice_get (values_of entries) place ≡ Some stands.value
    value-standing = value-at entries place (key, stands.value) stands.here

    -- a look-up finds it, if keys are distinct
    pub lookup-standing : IsDistinct same (keys_of entries) → (value : V) → Some value ≡ slice_get (values_of entries) place → lookup (same key) entries ≡ Some value
    lookup-standing once value there = lookup-at entries place key stands.value once stands.here ∙ sym value-standing ∙ sym there

    -- a write there is a write for its key
    pub set_value_at-standing : IsDistinct same (keys_of entries) → (w : V) → set_value_at entries place w ≡ set_value (same key) entries w
    set_value_at-standing once w = written-at entries place key stands.value w once stands.here
