-- Names and ids that compare as the same are equal.
use Rattle.std.proofs.Common.{◌≡◌, true}
use Rattle.std.proofs.lemmas.Cmp.{nat_list_eq_equiv}
use Rattle.std.proofs.lemmas.Slice.Eq.{bytes_eq-Decides}
use Rattle.gu_terms.specs.Same.{same_account, same_firm, same_group, same_id, same_symbol}
use Rattle.gu_terms.specs.declared.account.AccountId.{AccountId}
use Rattle.gu_terms.specs.declared.firm.FirmId.{FirmId}
use Rattle.gu_terms.specs.declared.group.Group.{Group}
use Rattle.gu_terms.specs.declared.id.Id.{Id}
use Rattle.gu_terms.specs.declared.symbol.Symbol.{Symbol}

-- names that compare as the same are equal
pub same_firm-true : (a b : FirmId) → same_firm a b ≡ true → a ≡ b
same_firm-true a b h = λ i. record { name = (bytes_eq-Decides a.name b.name).0 h i }

pub same_group-true : (a b : Group) → same_group a b ≡ true → a ≡ b
same_group-true a b h = λ i. record { name = (bytes_eq-Decides a.name b.name).0 h i }

pub same_account-true : (a b : AccountId) → same_account a b ≡ true → a ≡ b
same_account-true a b h = λ i. record { name = (bytes_eq-Decides a.name b.name).0 h i }

pub same_symbol-true : (a b : Symbol) → same_symbol a b ≡ true → a ≡ b
same_symbol-true a b h = λ i. record { name = (bytes_eq-Decides a.name b.name).0 h i }

pub same_id-true : (a b : Id) → same_id a b ≡ true → a ≡ b
same_id-true a b h = (bytes_eq-Decides a b).0 h

-- each is the same as itself
pub same_firm-own : (a : FirmId) → same_firm a a ≡ true
same_firm-own a = nat_list_eq_equiv.refl a.name

pub same_group-own : (a : Group) → same_group a a ≡ true
same_group-own a = nat_list_eq_equiv.refl a.name

pub same_account-own : (a : AccountId) → same_account a a ≡ true
same_account-own a = nat_list_eq_equiv.refl a.name

pub same_symbol-own : (a : Symbol) → same_symbol a a ≡ true
same_symbol-own a = nat_list_eq_equiv.refl a.name

pub same_id-own : (a : Id) → same_id a a ≡ true
same_id-own a = nat_list_eq_equiv.refl a

-- the order of the two doesn't matter
pub same_account-turned : (a b : AccountId) → same_account a b ≡ same_account b a
same_account-turned a b = nat_list_eq_equiv.symm a.name b.name

pub same_symbol-turned : (a b : Symbol) → same_symbol a b ≡ same_symbol b a
same_symbol-turned a b = nat_list_eq_equiv.symm a.name b.name

pub same_id-turned : (a b : Id) → same_id a b ≡ same_id b a
same_id-turned a b = nat_list_eq_equiv.symm a b
