-- Acceptance: the first fault of a row after the tables so far, if it has one.
use Rattle.std.specs.Prelude.{ℕ, Bool, true, false, not, ◌&&◌, ◌||◌, is_some, nat_le, List, length, Option, Some, None, if◌then◌else◌}
use Rattle.std.specs.Option.{option_map_or}
use Rattle.gu_ref.specs.declared.row.Row.{Row}
use Rattle.gu_ref.specs.declared.row.Row.TheVariants as row
use Rattle.gu_ref.specs.declared.error.RefFault.{RefFault}
use Rattle.gu_ref.specs.declared.error.RefFault.TheVariants.{BadRow, Unknown, Twice, TooMany}
use Rattle.gu_terms.specs.Same.{same_firm}
use Rattle.gu_ref.specs.Tables.{Tables}
use Rattle.gu_ref.specs.Reference.{is_firm, is_group, is_instrument, account_row, agreement_row, agreement_between, guarantor_of}
use Rattle.gu_ref.specs.Rows.{row_of}

-- everything that the row names has been declared
abbrev pub is_known : Tables → Row → Bool
is_known t (row.Firm firm) = true
is_known t (row.Group group) = true
is_known t (row.Instrument i) = is_group t i.group
is_known t (row.Account a) = is_firm t a.firm
is_known t (row.Agreement a) = is_firm t a.executing && is_some (account_row t a.account)
is_known t (row.Guarantor g) = is_firm t g.guarantor && is_firm t g.firm

-- the row is an agreement for an account that the executing firm carries itself, or makes a firm its own guarantor
abbrev pub is_own : Tables → Row → Bool
is_own t (row.Firm firm) = false
is_own t (row.Group group) = false
is_own t (row.Instrument i) = false
is_own t (row.Account a) = false
is_own t (row.Agreement a) = option_map_or (λ account. same_firm account.firm a.executing) (account_row t a.account) false
is_own t (row.Guarantor g) = same_firm g.guarantor g.firm

-- the row declares a name again, a second agreement for the same pair, or a second guarantor for the same firm
abbrev pub is_twice : Tables → Row → Bool
is_twice t (row.Firm firm) = is_firm t firm
is_twice t (row.Group group) = is_group t group
is_twice t (row.Instrument i) = is_instrument t i.symbol
is_twice t (row.Account a) = is_some (account_row t a.account)
is_twice t (row.Agreement a) = is_some (agreement_row t a.id) || is_some (agreement_between t a.executing a.account)
is_twice t (row.Guarantor g) = is_some (guarantor_of t g.firm)

-- the table for the row's kind is full: 1,000 firms, 100 groups and 10,000 of each other kind; guarantors have no limit of their own, since
-- a firm has at most one
abbrev pub is_full : Tables → Row → Bool
is_full t (row.Firm firm) = nat_le 1000 (length t.firms)
is_full t (row.Group group) = nat_le 100 (length t.groups)
is_full t (row.Instrument i) = nat_le 10000 (length t.instruments)
is_full t (row.Account a) = nat_le 10000 (length t.accounts)
is_full t (row.Agreement a) = nat_le 10000 (length t.agreements)
is_full t (row.Guarantor g) = false

-- the first fault of a row, in the order in which a row is tested
abbrev pub row_fault : Tables → ℕ → Row → Option RefFault
row_fault t line row =
    if not (is_known t row) then Some (Unknown line)
    else if is_own t row then Some (BadRow line)
    else if is_twice t row then Some (Twice line)
    else if is_full t row then Some TooMany
    else None

-- the first fault of a record: BadRow if it isn't a row, else the fault of its row
abbrev pub record_fault : Tables → ℕ → List (List ℕ) → Option RefFault
record_fault t line fields = option_map_or (row_fault t line) (row_of fields) (Some (BadRow line))
