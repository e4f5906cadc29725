-- The repeated tag reported is that of the leftmost field that repeats one.
use Rattle.gu_msgs.proofs.Words.{◌≡◌, ◌<◌, ◌≤◌, ℕ, zero, suc, Bool, true, false, cond, List, [], ◌∷◌, ◌++◌, length, slice_get, Option, None, Some, MatchOption, refl, subst, append_assoc, inl, inr, arith, cases_order, length-append, take_at, TagValue, StandsAgain, StandsAgainFirst, is_second, repeated, repeated_after, Row}

-- the field after others
pub field_after : (before : List TagValue) (f : TagValue) (fs : List TagValue) → slice_get (before ++ f ∷ fs) (length before) ≡ Some f
field_after [] f fs = refl
field_after (x ∷ before) f fs = field_after before f fs

-- there is no field past the last
none_past : (fields : List TagValue) (place : ℕ) → length fields ≤ place → slice_get fields place ≡ None
none_past [] place past = refl
none_past (f ∷ fs) zero past = absurd (omega (arith, past))
none_past (f ∷ fs) (suc place) past = none_past fs place (omega (arith, past))

-- a field repeats a tag after others, if its tag is repeated
again_after : (rows : List Row) (before : List TagValue) (f : TagValue) (fs : List TagValue) → is_second rows before f ≡ true → StandsAgain rows (before ++ f ∷ fs) (length before)
again_after rows before f fs second = rw (field_after before f fs, take_at before (f ∷ fs) (length before) refl) second

-- and only then
second_after : (rows : List Row) (before : List TagValue) (f : TagValue) (fs : List TagValue) → StandsAgain rows (before ++ f ∷ fs) (length before) → is_second rows before f ≡ true
second_after rows before f fs again = rw (field_after before f fs, take_at before (f ∷ fs) (length before) refl) at again

-- the meaning of the tag that was found
abbrev IsFound : List Row → List TagValue → Option ℕ → Type 0
IsFound rows fields found = MatchOption found ((place : ℕ) → StandsAgain rows fields place → ⊥) (StandsAgainFirst rows fields)

-- after fields without a repeated tag
found_after : (rows : List Row) (before ahead : List TagValue) → ((place : ℕ) → place < length before → StandsAgain rows (before ++ ahead) place → ⊥)
    → IsFound rows (before ++ ahead) (repeated_after rows before ahead)
found_after rows before [] none = λ place again.
    let past : length before ≤ place → ⊥ = λ le. (let nothing = rw (none_past (before ++ []) place (omega (arith, le, length-append before []))) at again in nothing) in
    elim (cases_order place (length before)) [
      | inl same ↦ past (omega (arith, same))
      | inr (inl early) ↦ none place early again
      | inr (inr late) ↦ past (omega (arith, late))
    ]
found_after rows before (f ∷ fs) none =
    let joined : before ++ f ∷ [] ++ fs ≡ before ++ f ∷ fs = append_assoc before (f ∷ []) fs in
    let P : Bool → Type 0 = λ b. is_second rows before f ≡ b → IsFound rows (before ++ f ∷ fs) (cond b (Some f.tag) (repeated_after rows (before ++ f ∷ []) fs)) in
    let here : P true = λ second. record {
      place = length before;
      value = f.value;
      at = field_after before f fs;
      again = again_after rows before f fs second;
      first = none;
    } in
    let later : P false = λ other.
    (let still : (place : ℕ) → place < length (before ++ f ∷ []) → StandsAgain rows (before ++ f ∷ [] ++ fs) place → ⊥ = λ place within again.
    (let own : StandsAgain rows (before ++ f ∷ fs) place = subst (λ (t : List TagValue). StandsAgain rows t place) joined again in
    elim (cases_order place (length before)) [
      | inl same ↦ (let second = second_after rows before f fs (subst (λ (k : ℕ). StandsAgain rows (before ++ f ∷ fs) k) same own) in cc)
      | inr (inl early) ↦ none place early own
      | inr (inr late) ↦ omega (arith, within, late, length-append before (f ∷ []))
    ]) in
    subst (λ (t : List TagValue). IsFound rows t (repeated_after rows (before ++ f ∷ []) fs)) joined (found_after rows (before ++ f ∷ []) fs still)) in
    let at : (b : Bool) → P b = λ b. elim b as P [ true ↦ here | false ↦ later ] in
    at (is_second rows before f) refl

pub leftmost : (rows : List Row) (fields : List TagValue) → MatchOption (repeated rows fields) ((place : ℕ) → StandsAgain rows fields place → ⊥) (StandsAgainFirst rows fields)
leftmost rows fields = found_after rows [] fields (λ place within again. omega (arith, within))
