-- The `==` of keys and agreements, with which sets find them.
use Rattle.gu_view.proofs.Words.{◌≡◌, ℕ, Bool, true, List, ap, ◌∙◌, rules, list_any, bytes_eq-Decides, key_eq, has_key, AgreementId, LimitKey, Agr, eq, eq_is, key_eq-sym, list_any-agree}
use Rattle.gu_terms.specs.contracts.agreement.AgreementIdPartialEq.TheImpl as agreement

-- this key is in the set
pub has_key-eq : (keys : List LimitKey) (k : LimitKey) → list_any (eq k) keys ≡ has_key keys k
has_key-eq keys k = list_any-agree (eq k) (λ j. key_eq j k) keys (λ j. eq_is k j ∙ key_eq-sym k j)

-- the `==` of agreements
abbrev pub same : AgreementId → AgreementId → Bool
same = agreement.eq-value.it

pub same_is : (a b : AgreementId) → same a b ≡ key_eq (Agr a) (Agr b)
same_is a b = search rules

-- agreements that it finds equal are equal
pub same-one : (a b : AgreementId) → same a b ≡ true → a ≡ b
same-one a b hit = ap (λ (name : List ℕ). record { name = name }) ((bytes_eq-Decides a.name b.name).0 hit)
