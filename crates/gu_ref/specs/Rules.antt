-- Rules of every reference.
use Rattle.std.specs.Prelude.{Bool, ◌≤◌, ◌&&◌, not, length}
use Rattle.std.specs.List.{AllPass, IsDistinct}
use Rattle.gu_ref.specs.declared.row.Row.TheVariants as row
use Rattle.gu_ref.specs.declared.agreements.Agreement.{Agreement}
use Rattle.gu_ref.specs.Accepted.{is_known, is_own}
use Rattle.gu_ref.specs.Rows.{has_names}
use Rattle.gu_terms.specs.Same.{same_firm, same_group, same_symbol, same_account, same_agreement}
use Rattle.gu_ref.specs.Tables.{Tables}

-- two agreements have the same executing firm and account
abbrev pub same_pair : Agreement → Agreement → Bool
same_pair a b = same_firm a.executing b.executing && same_account a.account b.account

-- no kind exceeds its limit, and there are no more guarantors than there may be firms
pub record IsWithinLimits (t : Tables) : Type 0 where
  pub firms : length t.firms ≤ 1000
  pub groups : length t.groups ≤ 100
  pub instruments : length t.instruments ≤ 10000
  pub accounts : length t.accounts ≤ 10000
  pub agreements : length t.agreements ≤ 10000
  pub guarantors : length t.guarantors ≤ 1000

-- each name occurs once in its kind, a pair of executing firm and account has at most one agreement, and a firm at most one guarantor
pub record IsOnce (t : Tables) : Type 0 where
  pub firms : IsDistinct same_firm t.firms
  pub groups : IsDistinct same_group t.groups
  pub symbols : IsDistinct (λ a b. same_symbol a.symbol b.symbol) t.instruments
  pub accounts : IsDistinct (λ a b. same_account a.account b.account) t.accounts
  pub agreements : IsDistinct (λ a b. same_agreement a.id b.id) t.agreements
  pub pairs : IsDistinct same_pair t.agreements
  pub guaranteed : IsDistinct (λ a b. same_firm a.firm b.firm) t.guarantors

-- each name in each row has the form of a name
pub record AreNamed (t : Tables) : Type 0 where
  pub firms : AllPass (λ f. has_names (row.Firm f)) t.firms
  pub groups : AllPass (λ g. has_names (row.Group g)) t.groups
  pub instruments : AllPass (λ i. has_names (row.Instrument i)) t.instruments
  pub accounts : AllPass (λ a. has_names (row.Account a)) t.accounts
  pub agreements : AllPass (λ a. has_names (row.Agreement a)) t.agreements
  pub guarantors : AllPass (λ g. has_names (row.Guarantor g)) t.guarantors

-- the rules: what rows name is declared, no firm has an agreement for its own account or is its own guarantor, nothing is declared twice or
-- beyond a limit, and each name has the form of a name
pub record IsSound (t : Tables) : Type 0 where
  pub groups : AllPass (λ i. is_known t (row.Instrument i)) t.instruments
  pub firms : AllPass (λ a. is_known t (row.Account a)) t.accounts
  pub parties : AllPass (λ a. is_known t (row.Agreement a)) t.agreements
  pub foreign : AllPass (λ a. not (is_own t (row.Agreement a))) t.agreements
  pub guarantors : AllPass (λ g. is_known t (row.Guarantor g)) t.guarantors
  pub others : AllPass (λ g. not (is_own t (row.Guarantor g))) t.guarantors
  pub once : IsOnce t
  pub within : IsWithinLimits t
  pub names : AreNamed t
