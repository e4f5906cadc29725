-- Look-ups in a reference.
use Rattle.std.specs.Prelude.{Bool, Option}
use Rattle.std.specs.List.{list_any}
use Rattle.std.specs.Option.{option_and_then, option_map}
use Rattle.gu_terms.specs.declared.firm.FirmId.{FirmId}
use Rattle.gu_terms.specs.declared.group.Group.{Group}
use Rattle.gu_terms.specs.declared.symbol.Symbol.{Symbol}
use Rattle.gu_terms.specs.declared.account.AccountId.{AccountId}
use Rattle.gu_terms.specs.declared.agreement.AgreementId.{AgreementId}
use Rattle.gu_ref.specs.declared.instruments.Instrument.{Instrument}
use Rattle.gu_ref.specs.declared.accounts.Account.{Account}
use Rattle.gu_ref.specs.declared.agreements.Agreement.{Agreement}
use Rattle.gu_ref.specs.declared.partner.Partner.{Partner}
use Rattle.gu_terms.specs.Same.{same_symbol}
use Rattle.gu_ref.specs.Listed.{has_firm, has_group, instrument_in, account_in, agreement_in, agreement_for, guarantor_for, is_guarantor_in}
use Rattle.gu_ref.specs.Tables.{Tables}

-- the reference has this firm
abbrev pub is_firm : Tables → FirmId → Bool
is_firm reference firm = has_firm reference.firms firm

-- the reference has this group
abbrev pub is_group : Tables → Group → Bool
is_group reference group = has_group reference.groups group

-- the reference has this instrument
abbrev pub is_instrument : Tables → Symbol → Bool
is_instrument reference symbol = list_any (λ i. same_symbol i.symbol symbol) reference.instruments

-- the instrument with this symbol and its group
abbrev pub instrument_row : Tables → Symbol → Option Instrument
instrument_row reference symbol = instrument_in reference.instruments symbol

-- the account with this name and the firm that carries it
abbrev pub account_row : Tables → AccountId → Option Account
account_row reference account = account_in reference.accounts account

-- the agreement with this name
abbrev pub agreement_row : Tables → AgreementId → Option Agreement
agreement_row reference id = agreement_in reference.agreements id

-- the agreement by which this firm gives up to this account
abbrev pub agreement_between : Tables → FirmId → AccountId → Option AgreementId
agreement_between reference executing account = option_map (λ a. a.id) (agreement_for reference.agreements executing account)

-- this agreement and the firm that carries the account
abbrev pub partner_between : Tables → FirmId → AccountId → Option Partner
partner_between reference executing account =
    option_and_then
    (λ agreement. option_map (λ row. record { agreement = agreement; carrying = row.firm }) (account_row reference account))
    (agreement_between reference executing account)

-- the guarantor of this firm, if it has one
abbrev pub guarantor_of : Tables → FirmId → Option FirmId
guarantor_of reference firm = option_map (λ g. g.guarantor) (guarantor_for reference.guarantors firm)

-- this firm is the guarantor in one of the rows
abbrev pub is_guarantor : Tables → FirmId → Bool
is_guarantor reference firm = is_guarantor_in reference.guarantors firm
