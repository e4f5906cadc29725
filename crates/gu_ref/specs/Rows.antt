-- The row in a record's fields: its kind and its names.
use Rattle.std.specs.Prelude.{ℕ, Bool, ◌&&◌, List, [], ◌∷◌, codes, Option, Some, None, if◌then◌else◌}
use Rattle.std.specs.List.{list_all}
use Rattle.std.specs.Str.{bytes_eq}
use Rattle.gu_terms.specs.Names.{is_name}
use Rattle.gu_ref.specs.declared.row.Row.{Row}
use Rattle.gu_ref.specs.declared.row.Row.TheVariants as row

-- the name in a field, if the field is present and is a name
abbrev pub name_in : Option (List ℕ) → Option (List ℕ)
name_in None = None
name_in (Some bytes) = if is_name bytes then Some bytes else None

-- `FIRM,firm` and `GROUP,group`
abbrev pub row_of_one : List ℕ → List ℕ → Option Row
row_of_one kind name =
    if bytes_eq kind (codes "FIRM") then Some (row.Firm (record { name = name }))
    else if bytes_eq kind (codes "GROUP") then Some (row.Group (record { name = name }))
    else None

-- `INSTRUMENT,symbol,group`, `ACCOUNT,account,firm` and `GUARANTOR,guarantor,firm`
abbrev pub row_of_two : List ℕ → List ℕ → List ℕ → Option Row
row_of_two kind first second =
    if bytes_eq kind (codes "INSTRUMENT") then
    Some (row.Instrument (record { symbol = record { name = first }; group = record { name = second } }))
    else if bytes_eq kind (codes "ACCOUNT") then
    Some (row.Account (record { account = record { name = first }; firm = record { name = second } }))
    else if bytes_eq kind (codes "GUARANTOR") then
    Some (row.Guarantor (record { guarantor = record { name = first }; firm = record { name = second } }))
    else None

-- `AGREEMENT,id,executing firm,account`
abbrev pub row_of_three : List ℕ → List ℕ → List ℕ → List ℕ → Option Row
row_of_three kind first second third =
    if bytes_eq kind (codes "AGREEMENT") then
    Some (row.Agreement (record {
      id = record { name = first };
      executing = record { name = second };
      account = record { name = third };
    }))
    else None

-- the row of this kind with these names, if there is one
abbrev pub row_of_names : List ℕ → List (List ℕ) → Option Row
row_of_names kind (first ∷ []) = row_of_one kind first
row_of_names kind (first ∷ second ∷ []) = row_of_two kind first second
row_of_names kind (first ∷ second ∷ third ∷ []) = row_of_three kind first second third
row_of_names kind _ = None

-- the row in a record, if it is a valid one: its first field is the kind, and each other field is a name
abbrev pub row_of : List (List ℕ) → Option Row
row_of [] = None
row_of (kind ∷ names) = if list_all is_name names then row_of_names kind names else None

-- each name in a row has the form of a name: one to twelve capital letters, digits and `-`
abbrev pub has_names : Row → Bool
has_names (row.Firm f) = is_name f.name
has_names (row.Group g) = is_name g.name
has_names (row.Instrument i) = is_name i.symbol.name && is_name i.group.name
has_names (row.Account a) = is_name a.account.name && is_name a.firm.name
has_names (row.Agreement a) = is_name a.id.name && is_name a.executing.name && is_name a.account.name
has_names (row.Guarantor g) = is_name g.guarantor.name && is_name g.firm.name
