-- The reference that the rows of a file make: each kind in the order of the file.
use Rattle.std.specs.Prelude.{ℕ, List, Option, Some, None}
use Rattle.std.specs.List.{filter_map}
use Rattle.gu_terms.specs.declared.firm.FirmId.{FirmId}
use Rattle.gu_terms.specs.declared.group.Group.{Group}
use Rattle.gu_ref.specs.declared.instruments.Instrument.{Instrument}
use Rattle.gu_ref.specs.declared.accounts.Account.{Account}
use Rattle.gu_ref.specs.declared.agreements.Agreement.{Agreement}
use Rattle.gu_ref.specs.declared.guarantors.Guarantor.{Guarantor}
use Rattle.gu_ref.specs.declared.row.Row.{Row}
use Rattle.gu_ref.specs.declared.row.Row.TheVariants as row
use Rattle.gu_ref.specs.Rows.{row_of}
use Rattle.gu_ref.specs.Tables.{Tables}

-- the firm that a row declares
abbrev pub firm_of : Row → Option FirmId
firm_of (row.Firm firm) = Some firm
firm_of (row.Group _) = None
firm_of (row.Instrument _) = None
firm_of (row.Account _) = None
firm_of (row.Agreement _) = None
firm_of (row.Guarantor _) = None

-- the group that a row declares
abbrev pub group_of : Row → Option Group
group_of (row.Firm _) = None
group_of (row.Group group) = Some group
group_of (row.Instrument _) = None
group_of (row.Account _) = None
group_of (row.Agreement _) = None
group_of (row.Guarantor _) = None

-- the instrument that a row declares
abbrev pub instrument_of : Row → Option Instrument
instrument_of (row.Firm _) = None
instrument_of (row.Group _) = None
instrument_of (row.Instrument instrument) = Some instrument
instrument_of (row.Account _) = None
instrument_of (row.Agreement _) = None
instrument_of (row.Guarantor _) = None

-- the account that a row declares
abbrev pub account_of : Row → Option Account
account_of (row.Firm _) = None
account_of (row.Group _) = None
account_of (row.Instrument _) = None
account_of (row.Account account) = Some account
account_of (row.Agreement _) = None
account_of (row.Guarantor _) = None

-- the agreement that a row declares
abbrev pub agreement_of : Row → Option Agreement
agreement_of (row.Firm _) = None
agreement_of (row.Group _) = None
agreement_of (row.Instrument _) = None
agreement_of (row.Account _) = None
agreement_of (row.Agreement agreement) = Some agreement
agreement_of (row.Guarantor _) = None

-- the guarantor that a row declares, with the firm that it guarantees
abbrev pub guarantor_of_row : Row → Option Guarantor
guarantor_of_row (row.Firm _) = None
guarantor_of_row (row.Group _) = None
guarantor_of_row (row.Instrument _) = None
guarantor_of_row (row.Account _) = None
guarantor_of_row (row.Agreement _) = None
guarantor_of_row (row.Guarantor guarantor) = Some guarantor

-- the tables that the rows make, kind by kind
abbrev pub tables_of : List Row → Tables
tables_of rows = record {
  firms = filter_map firm_of rows;
  groups = filter_map group_of rows;
  instruments = filter_map instrument_of rows;
  accounts = filter_map account_of rows;
  agreements = filter_map agreement_of rows;
  guarantors = filter_map guarantor_of_row rows;
}

-- the reference that a file's records make
abbrev pub reference_of : List (List (List ℕ)) → Tables
reference_of records = tables_of (filter_map row_of records)
