-- Two places are equal if their names are the same.
use Rattle.gu_positions.proofs.Words.{◌≡◌, ◌&&◌, ap, refl, true, same_account-own, same_account-true, same_symbol-own, same_symbol-true, AccountId, Symbol, same_account, same_symbol, same_place, same_key, Place}
use Rattle.std.specs.Cmp.{IsEquivalence}
use Rattle.std.proofs.lemmas.Cmp.{nat_list_eq_equiv}
use Rattle.gu_terms.proofs.SameValues.{both}

-- places with the same names are equal
pub same_place-true : (a : AccountId) (s : Symbol) (b : AccountId) (t : Symbol) → same_place a s b t ≡ true → (a ≡ b) × (s ≡ t)
same_place-true a s b t h =
    let p = both (same_account a b) (same_symbol s t) h in
    (same_account-true a b p.0, same_symbol-true s t p.1)

pub same_place-own : (a : AccountId) (s : Symbol) → same_place a s a s ≡ true
same_place-own a s = rw (same_account-own a, same_symbol-own s) refl

-- the order of two places doesn't matter
pub same_place-sym : (a : AccountId) (s : Symbol) (b : AccountId) (t : Symbol) → same_place a s b t ≡ same_place b t a s
same_place-sym a s b t = λ i. nat_list_eq_equiv.symm a.name b.name i && nat_list_eq_equiv.symm s.name t.name i

-- ---- the `==` of places, with which the map finds rows

pub same_key-true : (a b : Place) → same_key a b ≡ true → a ≡ b
same_key-true a b h =
    let p = same_place-true a.account a.symbol b.account b.symbol h in
    λ i. record { account = p.0 i; symbol = p.1 i }

pub same_key-laws : IsEquivalence same_key
same_key-laws = record {
  refl = λ a. same_place-own a.account a.symbol;
  symm = λ a b. same_place-sym a.account a.symbol b.account b.symbol;
  congr = λ a b c h. ap (λ k. same_key k c) (same_key-true a b h);
}
