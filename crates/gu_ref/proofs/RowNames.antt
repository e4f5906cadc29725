-- The row in a record's fields has names alone.
use Rattle.gu_ref.proofs.Words.{◌≡◌, ℕ, Bool, true, false, ◌&&◌, List, [], ◌∷◌, Option, Some, None, refl, sym, ap, ◌∙◌, codes, if◌then◌else◌, list_all, has_names, row_of, row_of_names, row_of_one, row_of_three, row_of_two, Row}
use Rattle.std.specs.Str.{bytes_eq}
use Rattle.gu_terms.proofs.SameValues.{both}
use Rattle.gu_terms.specs.Names.{is_name}
use Rattle.gu_ref.specs.declared.row.Row.TheVariants as row

-- of two choices, each of which has names if it is one
chosen : (b : Bool) (one : Row) (other : Option Row) (found : Row) → has_names one ≡ true → (other ≡ Some found → has_names found ≡ true)
    → (if b then Some one else other) ≡ Some found → has_names found ≡ true
chosen true one other found own rest h = let same : one ≡ found = cc in ap has_names (sym same) ∙ own
chosen false one other found own rest h = rest h

all_pass : (p q : Bool) → p ≡ true → q ≡ true → (p && q) ≡ true
all_pass p q hp hq = rw (hp, hq) refl

names-one : (kind first : List ℕ) (found : Row) → is_name first ≡ true → row_of_one kind first ≡ Some found → has_names found ≡ true
names-one kind first found named h =
    chosen (bytes_eq kind (codes "FIRM")) (row.Firm (record { name = first })) _ found named
    (chosen (bytes_eq kind (codes "GROUP")) (row.Group (record { name = first })) None found named (λ none. cc)) h

names-two : (kind first second : List ℕ) (found : Row) → is_name first ≡ true → is_name second ≡ true → row_of_two kind first second ≡ Some found → has_names found ≡ true
names-two kind first second found a b h =
    let two = all_pass (is_name first) (is_name second) a b in
    chosen (bytes_eq kind (codes "INSTRUMENT")) (row.Instrument (record { symbol = record { name = first }; group = record { name = second } })) _ found two
    (chosen (bytes_eq kind (codes "ACCOUNT")) (row.Account (record { account = record { name = first }; firm = record { name = second } })) _ found two
    (chosen (bytes_eq kind (codes "GUARANTOR")) (row.Guarantor (record { guarantor = record { name = first }; firm = record { name = second } })) None found two (λ none. cc))) h

names-three : (kind first second third : List ℕ) (found : Row) → is_name first ≡ true → is_name second ≡ true → is_name third ≡ true
    → row_of_three kind first second third ≡ Some found → has_names found ≡ true
names-three kind first second third found a b d h =
    let three = all_pass (is_name first && is_name second) (is_name third) (all_pass (is_name first) (is_name second) a b) d in
    chosen (bytes_eq kind (codes "AGREEMENT")) (row.Agreement (record { id = record { name = first }; executing = record { name = second }; account = record { name = third } })) None found three
    (λ none. cc) h

names-said : (kind : List ℕ) (names : List (List ℕ)) (found : Row) → list_all is_name names ≡ true → row_of_names kind names ≡ Some found → has_names found ≡ true
names-said kind [] found all h = cc
names-said kind (first ∷ []) found all h = names-one kind first found (both (is_name first) (list_all is_name []) all).0 h
names-said kind (first ∷ second ∷ []) found all h =
    let p = both (is_name first) (list_all is_name (second ∷ [])) all in
    names-two kind first second found p.0 (both (is_name second) (list_all is_name []) p.1).0 h
names-said kind (first ∷ second ∷ third ∷ []) found all h =
    let p = both (is_name first) (list_all is_name (second ∷ third ∷ [])) all in
    let q = both (is_name second) (list_all is_name (third ∷ [])) p.1 in
    names-three kind first second third found p.0 q.0 (both (is_name third) (list_all is_name []) q.1).0 h
names-said kind (first ∷ second ∷ third ∷ fourth ∷ names) found all h = cc

pub row_named : (fields : List (List ℕ)) (found : Row) → row_of fields ≡ Some found → has_names found ≡ true
row_named [] found h = cc
row_named (kind ∷ names) found h = by (list_all is_name names) refl h
  where
    by : (b : Bool) → list_all is_name names ≡ b → (if b then row_of_names kind names else None) ≡ Some found → has_names found ≡ true
    by true all g = names-said kind names found all g
    by false all g = cc
