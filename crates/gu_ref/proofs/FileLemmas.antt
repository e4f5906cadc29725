-- A file with one more record: its faults, and the reference that it makes.
use Rattle.gu_ref.proofs.Words.{◌≡◌, ◌∙◌, refl, ap, ◌⊎◌, inl, inr, ℕ, zero, suc, ◌<◌, ◌≤◌, ◌+◌, List, [], ◌∷◌, ◌++◌, length, slice_get, Option, None, Some, arith, length-append, filter_map, cons_option, take-append-le, append-nil, Row, record_fault, AreAccepted, fault_at, with_row, with_said, with_record, reference_of, tables_of, row_of}
use Rattle.std.proofs.lemmas.List.Elements.{filter_map-append}
use Rattle.std.proofs.lemmas.Option.{slice_get_past}
use Rattle.std.proofs.lemmas.Bool.{cases_order}
use Rattle.std.proofs.Math.Seq.{take-append_seam}
use Rattle.gu_ref.specs.declared.row.Row.TheVariants as row

get-left : {X : Type 0} (xs ys : List X) (place : ℕ) → place < length xs → slice_get (xs ++ ys) place ≡ slice_get xs place
get-left [] ys place h = absurd (omega arith)
get-left (x ∷ xs) ys zero h = refl
get-left (x ∷ xs) ys (suc place) h = get-left xs ys place (omega arith)

get-last : {X : Type 0} (xs : List X) (x : X) → slice_get (xs ++ x ∷ []) (length xs) ≡ Some x
get-last [] x = refl
get-last (y ∷ xs) x = get-last xs x

-- the fault of the last record
pub fault_at-last : (records : List (List (List ℕ))) (next : List (List ℕ))
    → fault_at (records ++ next ∷ []) (length records) ≡ record_fault (reference_of records) (length records + 1) next
fault_at-last records next = rw (get-last records next, take-append_seam records (next ∷ [])) refl

-- the faults of the records before it
pub fault_at-more : (records : List (List (List ℕ))) (next : List (List ℕ)) (place : ℕ) → place < length records
    → fault_at (records ++ next ∷ []) place ≡ fault_at records place
fault_at-more records next place lt =
    let le : place ≤ length records = omega arith in
    rw (get-left records (next ∷ []) place lt, take-append-le place records (next ∷ []) le) refl

-- accepted records followed by one without a fault are accepted
pub accepted-more : (records : List (List (List ℕ))) (next : List (List ℕ)) → AreAccepted records
    → record_fault (reference_of records) (length records + 1) next ≡ None → AreAccepted (records ++ next ∷ [])
accepted-more records next all here place = by (cases_order place (length records))
  where
    by : (place ≡ length records) ⊎ ((place < length records) ⊎ (length records < place)) → fault_at (records ++ next ∷ []) place ≡ None
    by (inl e) = rw e (fault_at-last records next ∙ here)
    by (inr (inl lt)) = fault_at-more records next place lt ∙ all place
    by (inr (inr gt)) =
        let past : length (records ++ next ∷ []) ≤ place = omega (arith, length-append records (next ∷ [])) in
        rw (slice_get_past (records ++ next ∷ []) place past) refl

-- no records at all are accepted
pub accepted-none : AreAccepted []
accepted-none place = refl

tables-row : (rows : List Row) (next : Row) → tables_of (rows ++ next ∷ []) ≡ with_row (tables_of rows) next
tables-row rows (row.Firm x) = simp (filter_map-append, append-nil) refl
tables-row rows (row.Group x) = simp (filter_map-append, append-nil) refl
tables-row rows (row.Instrument x) = simp (filter_map-append, append-nil) refl
tables-row rows (row.Account x) = simp (filter_map-append, append-nil) refl
tables-row rows (row.Agreement x) = simp (filter_map-append, append-nil) refl
tables-row rows (row.Guarantor x) = simp (filter_map-append, append-nil) refl

tables-said : (rows : List Row) (said : Option Row) → tables_of (rows ++ cons_option said []) ≡ with_said (tables_of rows) said
tables-said rows None = ap tables_of (append-nil rows)
tables-said rows (Some next) = tables-row rows next

-- the reference with one more record
pub reference_of-more : (records : List (List (List ℕ))) (next : List (List ℕ)) → reference_of (records ++ next ∷ []) ≡ with_record (reference_of records) next
reference_of-more records next = ap tables_of (filter_map-append row_of records (next ∷ [])) ∙ tables-said (filter_map row_of records) (row_of next)
