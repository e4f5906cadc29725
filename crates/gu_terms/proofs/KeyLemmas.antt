-- The test of keys is equality.
use Rattle.std.proofs.Common.{◌≡◌, Bool, true, refl, ap, sym, inl, inr, ◌∙◌, rules}
use Rattle.std.specs.Bool.{Decides}
use Rattle.std.proofs.lemmas.Bool.{cases_Bool, false_from_ne_true}
use Rattle.std.proofs.lemmas.Slice.Eq.{bytes_eq-Decides}
use Rattle.gu_terms.specs.contracts.limit_key.LimitKeyPartialEq.TheImpl as limit_key
use Rattle.gu_terms.specs.declared.limit_key.LimitKey.{LimitKey}
use Rattle.gu_terms.specs.declared.limit_key.LimitKey.TheVariants.{Exec, Agr, Acct, Carry, Guar}
use Rattle.gu_terms.specs.LimitKeys.{key_eq}

-- keys that pass the test are equal
pub key_eq-same : (a b : LimitKey) → key_eq a b ≡ true → a ≡ b
key_eq-same (Exec a) (Exec b) h = ap (λ n. Exec (record { name = n })) ((bytes_eq-Decides a.name b.name).0 h)
key_eq-same (Agr a) (Agr b) h = ap (λ n. Agr (record { name = n })) ((bytes_eq-Decides a.name b.name).0 h)
key_eq-same (Acct a) (Acct b) h = ap (λ n. Acct (record { name = n })) ((bytes_eq-Decides a.name b.name).0 h)
key_eq-same (Carry a) (Carry b) h = ap (λ n. Carry (record { name = n })) ((bytes_eq-Decides a.name b.name).0 h)
key_eq-same (Guar a) (Guar b) h = ap (λ n. Guar (record { name = n })) ((bytes_eq-Decides a.name b.name).0 h)
key_eq-same _ _ h = cc

-- a key passes the test with itself
pub key_eq-refl : (a : LimitKey) → key_eq a a ≡ true
key_eq-refl (Exec a) = (bytes_eq-Decides a.name a.name).1 refl
key_eq-refl (Agr a) = (bytes_eq-Decides a.name a.name).1 refl
key_eq-refl (Acct a) = (bytes_eq-Decides a.name a.name).1 refl
key_eq-refl (Carry a) = (bytes_eq-Decides a.name a.name).1 refl
key_eq-refl (Guar a) = (bytes_eq-Decides a.name a.name).1 refl

-- equal keys pass the test
pub key_eq-from : (a b : LimitKey) → a ≡ b → key_eq a b ≡ true
key_eq-from a b e = rw (← e) (key_eq-refl a)

-- the order of the two keys doesn't matter
pub key_eq-sym : (a b : LimitKey) → key_eq a b ≡ key_eq b a
key_eq-sym a b =
    elim (cases_Bool (key_eq a b)) [
      | inl hit ↦ hit ∙ sym (key_eq-from b a (sym (key_eq-same a b hit)))
      | inr miss ↦ miss ∙ sym (false_from_ne_true (key_eq b a) (λ hit. let both = key_eq-from a b (sym (key_eq-same b a hit)) in cc))
    ]

-- the `==` of keys, with which sets and maps find them
abbrev pub eq : LimitKey → LimitKey → Bool
eq = limit_key.eq-value.it

-- it is this test
pub eq_is : (a b : LimitKey) → eq a b ≡ key_eq a b
eq_is a b = search rules

-- it is true only for the same key
pub eq-Decides : (a b : LimitKey) → Decides (eq a b) (a ≡ b)
eq-Decides a b = (λ same. key_eq-same a b (sym (eq_is a b) ∙ same), λ same. eq_is a b ∙ key_eq-from a b same)
