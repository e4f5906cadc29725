-- Machinery: a row without faults, and the tables after it.
use Rattle.std.specs.Prelude.{ℕ, ◌≡◌, true, false, ◌+◌, List, [], ◌∷◌, ◌++◌, length, Option, Some, None, Result, Ok, Err}
use Rattle.gu_ref.specs.declared.row.Row.{Row}
use Rattle.gu_ref.specs.declared.row.Row.TheVariants as row
use Rattle.gu_ref.specs.Accepted.{is_known, is_own, is_twice, is_full}
use Rattle.gu_ref.specs.Rows.{has_names, row_of}
use Rattle.gu_ref.specs.Tables.{Tables}

-- the tables with one more row, added last in its kind
abbrev pub with_row : Tables → Row → Tables
with_row t (row.Firm firm) = record t { firms = t.firms ++ firm ∷ [] }
with_row t (row.Group group) = record t { groups = t.groups ++ group ∷ [] }
with_row t (row.Instrument i) = record t { instruments = t.instruments ++ i ∷ [] }
with_row t (row.Account a) = record t { accounts = t.accounts ++ a ∷ [] }
with_row t (row.Agreement a) = record t { agreements = t.agreements ++ a ∷ [] }
with_row t (row.Guarantor g) = record t { guarantors = t.guarantors ++ g ∷ [] }

-- the tables with this row, if there is one
abbrev pub with_said : Tables → Option Row → Tables
with_said t None = t
with_said t (Some row) = with_row t row

-- the tables with the row in one more record, if it has one
abbrev pub with_record : Tables → List (List ℕ) → Tables
with_record t fields = with_said t (row_of fields)

-- the number of rows in the tables
abbrev pub row_count : Tables → ℕ
row_count t =
    length t.firms + length t.groups + length t.instruments + length t.accounts + length t.agreements + length t.guarantors

-- the fault of a test, if it found one
abbrev pub outcome_of : {T E : Type 0} → Result T E → Option E
outcome_of (Ok x) = None
outcome_of (Err e) = Some e

-- a row passes every test, and each name in it has the form of a name
pub record Passes (t : Tables) (row : Row) : Type 0 where
  pub known : is_known t row ≡ true
  pub foreign : is_own t row ≡ false
  pub new : is_twice t row ≡ false
  pub room : is_full t row ≡ false
  pub names : has_names row ≡ true
