-- Consecutive fields, taken from the front.
use Rattle.gu_msgs.proofs.Words.{◌≡◌, ◌<◌, ◌≤◌, ◌+◌, ◌-◌, ℕ, zero, suc, sym, List, [], ◌∷◌, Some, length, take, drop, slice_get, refl, ap, ◌∙◌, arith, add-one, drop-drop, drop-take, length-drop, length-take, TagValue}
use Rattle.gu_msgs.specs.Runs.{IsBetween, fields_between}

-- the field at an index is the first of those from there on
drop_at : (xs : List TagValue) (i : ℕ) (x : TagValue) → slice_get xs i ≡ Some x → drop i xs ≡ x ∷ drop (suc i) xs
drop_at [] i x at = cc
drop_at (y ∷ ys) zero x at = let same : y ≡ x = cc in rw same refl
drop_at (y ∷ ys) (suc i) x at = drop_at ys i x at

-- the fields up to a later index: the first, and those after it
pub first_between : (fields : List TagValue) (from to : ℕ) (field : TagValue) → from < to → slice_get fields from ≡ Some field
    → fields_between fields from to ≡ field ∷ fields_between fields (from + 1) to
first_between fields from to field before at =
    let more : to - from ≡ suc (to - (from + 1)) = omega arith in
    rw (more, drop_at fields from field at, add-one) refl

-- the first fields keep their indexes
taken_field : (xs : List TagValue) (n i : ℕ) → i < n → slice_get (take n xs) i ≡ slice_get xs i
taken_field [] zero i within = refl
taken_field [] (suc n) i within = refl
taken_field (x ∷ xs) zero i within = absurd (omega (arith, within))
taken_field (x ∷ xs) (suc n) zero within = refl
taken_field (x ∷ xs) (suc n) (suc i) within = taken_field xs n i (omega (arith, within))

-- those after others come earlier by their number
dropped_field : (xs : List TagValue) (n i : ℕ) → slice_get (drop n xs) i ≡ slice_get xs (n + i)
dropped_field [] zero i = refl
dropped_field [] (suc n) i = refl
dropped_field (x ∷ xs) zero i = let same : i ≡ zero + i = omega arith in ap (slice_get (x ∷ xs)) same
dropped_field (x ∷ xs) (suc n) i = let same : suc (n + i) ≡ suc n + i = omega arith in dropped_field xs n i ∙ ap (slice_get (x ∷ xs)) same

-- the number of fields
pub length_between : (fields : List TagValue) (from to : ℕ) → IsBetween fields from to → from + length (fields_between fields from to) ≡ to
length_between fields from to are =
    omega (arith, are.ordered, are.within, length-take (to - from) (drop from fields), length-drop from fields)

-- the field at an index among them
pub field_between : (fields : List TagValue) (from to i : ℕ) → i < length (fields_between fields from to) → slice_get (fields_between fields from to) i ≡ slice_get fields (from + i)
field_between fields from to i within =
    taken_field (drop from fields) (to - from) i (omega (arith, within, length-take (to - from) (drop from fields))) ∙ dropped_field fields from i

-- those after the first of them
pub dropped_between : (fields : List TagValue) (from to count : ℕ) → IsBetween fields from to → count ≤ length (fields_between fields from to)
    → fields_between fields (from + count) to ≡ drop count (fields_between fields from to)
dropped_between fields from to count are few =
    let rest = to - (from + count) in
    let more : to - from ≡ count + rest = omega (arith, length_between fields from to are, few) in
    ap (take rest) (sym (drop-drop count from fields)) ∙ sym (drop-take count rest (drop from fields)) ∙ ap (λ n. drop count (take n (drop from fields))) (sym more)
