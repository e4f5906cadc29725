-- Bytes that are split at a separator: by the first one, or not at all.
use Rattle.std.proofs.Common.{◌≡◌, ◌≢◌, ◌<◌, ◌≤◌, ◌+◌, ◌-◌, ◌∷◌, [], ◌∙◌, ◌==◌, ℕ, Bool, true, false, List, None, Some, length, take, drop, position, nat_lt, cond, refl, ap, subst, arith}
use Rattle.std.specs.List.{position_or_len, slice_split}
use Rattle.std.specs.Str.Lines.{lines, lines_of_parts, strip_carriage_return}
use Rattle.std.proofs.lemmas.Bool.{cond-false, ltb-false, ltb-true, ne_eqb}
use Rattle.std.proofs.lemmas.List.{length-drop, take_all}
use Rattle.std.proofs.lemmas.List.Splits.{length-slice_split, slice_split_first, slice_split_none}
use Rattle.std.proofs.lemmas.List.Sums.{fails_before_first}
use Rattle.std.proofs.lemmas.Option.{cond_some}
use Rattle.gu_secrets.specs.Secrets.{fields_of}

-- the place of the first separator is within the bytes
place_within : (p : ℕ → Bool) (bytes : List ℕ) (place : ℕ) → position p bytes ≡ Some place → (position_or_len p bytes ≡ place) × (place < length bytes)
place_within p bytes place h =
    let found = cond_some (nat_lt (position_or_len p bytes) (length bytes)) (position_or_len p bytes) place h in
    let inside : position_or_len p bytes < length bytes = ltb-true _ _ found.0 in
    (found.1, subst (λ (n : ℕ). n < length bytes) found.1 inside)

-- the first separator ends the first part
pub parts_at : (p : ℕ → Bool) (bytes : List ℕ) (place : ℕ) → position p bytes ≡ Some place
    → slice_split p bytes ≡ take place bytes ∷ slice_split p (drop (place + 1) bytes)
parts_at p bytes place h =
    let found = place_within p bytes place h in
    let inside : position_or_len p bytes < length bytes = omega (arith, found.0, found.1) in
    subst (λ (n : ℕ). slice_split p bytes ≡ take n bytes ∷ slice_split p (drop (n + 1) bytes)) found.0 (slice_split_first p bytes 0 inside)

none_of : (b : Bool) (n : ℕ) → cond b (Some n) None ≡ None → b ≡ false
none_of true n h = cc
none_of false n h = refl

-- without a separator there is one part
pub one_part : (p : ℕ → Bool) (bytes : List ℕ) → position p bytes ≡ None → slice_split p bytes ≡ bytes ∷ []
one_part p bytes h =
    let out : length bytes ≤ position_or_len p bytes = ltb-false _ _ (none_of (nat_lt (position_or_len p bytes) (length bytes)) (position_or_len p bytes) h) in
    slice_split_none p bytes (λ k d within. fails_before_first p bytes k d (omega (arith, out, within)))

-- a range up to the end is all that is left
pub to_the_end : (bytes : List ℕ) (place : ℕ) → take (length bytes - (place + 1)) (drop (place + 1) bytes) ≡ drop (place + 1) bytes
to_the_end bytes place = take_all (length bytes - (place + 1)) (drop (place + 1) bytes) (omega (arith, length-drop (place + 1) bytes))

-- ---- lines

first_of : (part : List ℕ) (parts : List (List ℕ)) → 0 < length parts → lines_of_parts (part ∷ parts) ≡ strip_carriage_return part ∷ lines_of_parts parts
first_of part [] h = absurd (omega (arith, h))
first_of part (next ∷ parts) h = refl

some_parts : (p : ℕ → Bool) (bytes : List ℕ) → 0 < length (slice_split p bytes)
some_parts p bytes = omega (arith, length-slice_split p bytes)

-- a text whose first LF comes after its first line
pub lines_first : (text front behind : List ℕ) → slice_split (λ b. b == 10) text ≡ front ∷ slice_split (λ b. b == 10) behind
    → lines text ≡ strip_carriage_return front ∷ lines behind
lines_first text front behind parts = ap lines_of_parts parts ∙ first_of front (slice_split (λ b. b == 10) behind) (some_parts (λ b. b == 10) behind)

-- a text without an LF is one line
pub lines_one : (text : List ℕ) → 0 < length text → slice_split (λ b. b == 10) text ≡ text ∷ [] → lines text ≡ text ∷ []
lines_one text some parts = ap lines_of_parts parts ∙ cond-false (length text == 0) [] (text ∷ []) (ne_eqb (length text) 0 (λ e. absurd (omega (arith, e, some))))

-- ---- fields

-- more than three fields aren't three
pub four_fields : (line first others second third fourth more : List ℕ) → fields_of line ≡ first ∷ fields_of others → fields_of others ≡ second ∷ fields_of third
    → fields_of third ≡ fourth ∷ fields_of more → length (fields_of line) ≢ 3
four_fields line first others second third fourth more a b c three =
    let n = ap length a in
    let m = ap length b in
    let k = ap length c in
    absurd (omega (arith, n, m, k, three, some_parts (λ b. b == 44) more))
