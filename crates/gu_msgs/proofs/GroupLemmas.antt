-- The fields before one, and entries.
use Rattle.gu_msgs.proofs.Words.{◌≡◌, ◌+◌, ◌≤◌, ◌-◌, ◌==◌, ℕ, Bool, true, false, cond, suc, List, [], ◌∷◌, length, take, refl, ap, arith, eq-eqb, TagValue, entries_by, up_to}

-- the fields before one are the first of that number
take-up_to : (is_such : ℕ → Bool) (fields : List TagValue) → take (length (up_to is_such fields)) fields ≡ up_to is_such fields
take-up_to is_such [] = refl
take-up_to is_such (f ∷ fs) =
    let parts : Bool → List TagValue = λ b. cond b [] (f ∷ up_to is_such fs) in
    let P : Bool → Type 0 = λ b. take (length (parts b)) (f ∷ fs) ≡ parts b in
    let at : (b : Bool) → P b = λ b. elim b as P [ true ↦ refl | false ↦ ap (λ (t : List TagValue). f ∷ t) (take-up_to is_such fs) ] in
    at (is_such f.tag)

-- the same, if the others are counted
pub first_up_to : (is_such : ℕ → Bool) (fields : List TagValue) (len left : ℕ) → len ≡ length fields → left + length (up_to is_such fields) ≡ length fields
    → take (len - left) fields ≡ up_to is_such fields
first_up_to is_such fields len left all others =
    let count : len - left ≡ length (up_to is_such fields) = omega arith in
    rw count (take-up_to is_such fields)

-- the first entry
pub entry_in_front : (first : ℕ) (here rest : List TagValue) (f : TagValue) (len left : ℕ) → here ≡ f ∷ rest → f.tag ≡ first → len ≡ length here
    → left + length (up_to (λ tag. tag == first) rest) ≡ length rest → entries_by first here ≡ take (len - left) here ∷ entries_by first rest
entry_in_front first here rest f len left is begins all others =
    let size : length here ≡ suc (length rest) = ap length is in
    let count : len - left ≡ suc (length (up_to (λ tag. tag == first) rest)) = omega arith in
    rw (is, eq-eqb f.tag first begins, count, take-up_to (λ tag. tag == first) rest) refl

-- there are no more entries than fields
pub length-entries_by : (first : ℕ) (fields : List TagValue) → length (entries_by first fields) ≤ length fields
length-entries_by first [] = omega arith
length-entries_by first (f ∷ fs) =
    let entry : List TagValue = f ∷ up_to (λ tag. tag == first) fs in
    let P : Bool → Type 0 = λ b. length (cond b (entry ∷ entries_by first fs) (entries_by first fs)) ≤ suc (length fs) in
    let fewer = length-entries_by first fs in
    let at : (b : Bool) → P b = λ b. elim b as P [ true ↦ omega (arith, fewer) | false ↦ omega (arith, fewer) ] in
    at (f.tag == first)
