-- Look-ups by name in lists of rows.
use Rattle.std.specs.Prelude.{Bool, ◌&&◌, List, Option}
use Rattle.std.specs.List.{find, list_any}
use Rattle.gu_terms.specs.declared.firm.FirmId.{FirmId}
use Rattle.gu_terms.specs.declared.group.Group.{Group}
use Rattle.gu_terms.specs.declared.symbol.Symbol.{Symbol}
use Rattle.gu_terms.specs.declared.account.AccountId.{AccountId}
use Rattle.gu_terms.specs.declared.agreement.AgreementId.{AgreementId}
use Rattle.gu_ref.specs.declared.instruments.Instrument.{Instrument}
use Rattle.gu_ref.specs.declared.accounts.Account.{Account}
use Rattle.gu_ref.specs.declared.agreements.Agreement.{Agreement}
use Rattle.gu_ref.specs.declared.guarantors.Guarantor.{Guarantor}
use Rattle.gu_terms.specs.Same.{same_firm, same_group, same_symbol, same_account, same_agreement}

-- the firm is in this list
abbrev pub has_firm : List FirmId → FirmId → Bool
has_firm firms firm = list_any (λ f. same_firm f firm) firms

-- the group is in this list
abbrev pub has_group : List Group → Group → Bool
has_group groups group = list_any (λ g. same_group g group) groups

-- the instrument with this symbol
abbrev pub instrument_in : List Instrument → Symbol → Option Instrument
instrument_in instruments symbol = find (λ i. same_symbol i.symbol symbol) instruments

-- the account with this name
abbrev pub account_in : List Account → AccountId → Option Account
account_in accounts account = find (λ a. same_account a.account account) accounts

-- the agreement with this name
abbrev pub agreement_in : List Agreement → AgreementId → Option Agreement
agreement_in agreements id = find (λ a. same_agreement a.id id) agreements

-- the agreement is between this executing firm and this account
abbrev pub is_between : FirmId → AccountId → Agreement → Bool
is_between executing account a = same_firm a.executing executing && same_account a.account account

-- the agreement between this executing firm and this account
abbrev pub agreement_for : List Agreement → FirmId → AccountId → Option Agreement
agreement_for agreements executing account = find (is_between executing account) agreements

-- the row that gives this firm a guarantor
abbrev pub guarantor_for : List Guarantor → FirmId → Option Guarantor
guarantor_for guarantors firm = find (λ g. same_firm g.firm firm) guarantors

-- the firm is the guarantor in one of these rows
abbrev pub is_guarantor_in : List Guarantor → FirmId → Bool
is_guarantor_in guarantors firm = list_any (λ g. same_firm g.guarantor firm) guarantors
