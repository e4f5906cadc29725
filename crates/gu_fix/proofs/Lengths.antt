-- The text of a message's length, read from the first bytes.
use Rattle.std.proofs.Common.{◌≡◌, ℕ, ◌+◌, ◌*◌, ◌<◌, ◌≤◌, ◌⊎◌, List, [], ◌∷◌, ◌++◌, length, take, drop, get_or, refl, sym, ap, subst, ◌∙◌, append_assoc, arith, inl, inr}
use Rattle.std.proofs.lemmas.List.{take-append-drop, drop_more, length-take-le, append-nil, length-append, length_push, nil_from_length}
use Rattle.std.proofs.lemmas.Int.Digits.{digits_value_push, digits_push}
use Rattle.std.specs.Char.{digit_value}
use Rattle.std.specs.Str.Parse.{AllDigits, digits_value}
use Rattle.gu_fix.specs.WholeMessage.{soh}
use Rattle.gu_fix.specs.Places.{IsLength}
use Rattle.gu_fix.proofs.WholeLemmas.{digits_end}
use Rattle.gu_fix.proofs.Digits.{longer_digits, digits_front, value_grows}

-- the bytes before a position, its byte, and those after it
pub split_at : (bytes : List ℕ) (i b : ℕ) → i < length bytes → get_or bytes i 0 ≡ b → bytes ≡ take i bytes ++ b ∷ drop (i + 1) bytes
split_at bytes i b l e =
    sym (take-append-drop i bytes) ∙ ap (λ (t : List ℕ). take i bytes ++ t) (drop_more bytes i 0 l) ∙ ap (λ n. take i bytes ++ n ∷ drop (i + 1) bytes) e

-- the same with more bytes after them
split_more : (bytes more : List ℕ) (i b : ℕ) → i < length bytes → get_or bytes i 0 ≡ b → take i bytes ++ b ∷ (drop (i + 1) bytes ++ more) ≡ bytes ++ more
split_more bytes more i b l e =
    sym (append_assoc (take i bytes) (b ∷ drop (i + 1) bytes) more) ∙ ap (λ (t : List ℕ). t ++ more) (sym (split_at bytes i b l e))

-- the digits end here, with a number that isn't a message's length
pub apart_at_soh : (bytes : List ℕ) (i value : ℕ) → i < length bytes → get_or bytes i 0 ≡ soh → AllDigits 10 (take i bytes) → value ≡ digits_value 10 (take i bytes) → (4 ≤ value → 65536 < 21 + i + value)
    → (digits more rest : List ℕ) (n : ℕ) → IsLength digits n → bytes ++ more ≡ digits ++ soh ∷ rest → ⊥
apart_at_soh bytes i value l at all is unfit digits more rest n len e =
    let same = (digits_end (take i bytes) digits _ rest all len.text.all (split_more bytes more i soh l at ∙ e)).0 in
    let number : value ≡ n = is ∙ ap (digits_value 10) same ∙ len.text.value in
    let count : i ≡ length digits = sym (length-take-le i bytes (omega arith)) ∙ ap length same in
    omega (arith, len.least, len.most, unfit)

-- an eighth digit, or a byte that is neither a digit nor SOH
pub apart_at_other : (bytes : List ℕ) (i b : ℕ) → i < length bytes → get_or bytes i 0 ≡ b → (b ≡ soh → ⊥) → AllDigits 10 (take i bytes) → (i ≡ 7) ⊎ (10 ≤ digit_value b)
    → (digits more rest : List ℕ) (n : ℕ) → IsLength digits n → bytes ++ more ≡ digits ++ soh ∷ rest → ⊥
apart_at_other bytes i b l at other all why digits more rest n len e =
    let longer = longer_digits (take i bytes) digits b _ rest all len.text.all other (split_more bytes more i b l at ∙ e) in
    let count : length (take i bytes) ≡ i = length-take-le i bytes (omega arith) in
    let most = len.text.most in
    elim why [ inl seven ↦ omega (arith, longer.0) | inr none ↦ omega (arith, longer.1) ]

-- only digits have come, and they are too many or too great
pub apart_at_end : (bytes : List ℕ) → AllDigits 10 bytes → ((digits_value 10 bytes < 4) × (7 ≤ length bytes)) ⊎ ((4 ≤ digits_value 10 bytes) × (65536 < 21 + length bytes + digits_value 10 bytes))
    → (digits more rest : List ℕ) (n : ℕ) → IsLength digits n → bytes ++ more ≡ digits ++ soh ∷ rest → ⊥
apart_at_end bytes all why digits more rest n len e =
    let front = digits_front bytes digits more rest all len.text.all e in
    let tail = front.0 in
    let count : length digits ≡ length bytes + length tail = ap length front.1 ∙ length-append bytes tail in
    let number : digits_value 10 (bytes ++ tail) ≡ n = ap (digits_value 10) (sym front.1) ∙ len.text.value in
    let grows = value_grows bytes tail in
    let most = len.text.most in
    elim why [
      | inl small ↦
          let none : tail ≡ [] = nil_from_length tail (omega (arith, small.1)) in
          let same : digits_value 10 (bytes ++ tail) ≡ digits_value 10 bytes = ap (λ (t : List ℕ). digits_value 10 (bytes ++ t)) none ∙ ap (digits_value 10) (append-nil bytes) in
          omega (arith, small.0, len.least)
      | inr great ↦ omega (arith, great.1, len.most)
    ]

-- only digits have come, and they are a message's length
pub open_as_is : (bytes : List ℕ) → AllDigits 10 bytes → length bytes ≤ 7 → 4 ≤ digits_value 10 bytes → 21 + length bytes + digits_value 10 bytes ≤ 65536 → IsLength bytes (digits_value 10 bytes)
open_as_is [] all few least most = absurd (omega arith)
open_as_is (c ∷ cs) all few least most = record { text = record { some = omega arith; most = few; all = all; value = refl }; least = least; most = most }

-- only digits have come, and followed by a 4 they are a message's length
pub open_with_four : (bytes : List ℕ) → AllDigits 10 bytes → length bytes < 7 → digits_value 10 bytes < 4 → IsLength (bytes ++ 52 ∷ []) (digits_value 10 bytes * 10 + 4)
open_with_four bytes all few small =
    let count = length_push bytes 52 in
    record {
      text = record { some = omega arith; most = omega arith; all = digits_push 10 bytes 52 all (omega arith); value = digits_value_push 10 bytes 52 };
      least = omega arith;
      most = omega arith;
    }

-- digits whose value is a length that a message can have
pub length_from : (digits : List ℕ) (n : ℕ) → AllDigits 10 digits → n ≡ digits_value 10 digits → length digits ≤ 7 → 4 ≤ n → 21 + length digits + n ≤ 65536 → IsLength digits n
length_from digits n all is few least most =
    subst (IsLength digits) (sym is) (open_as_is digits all few (omega arith) (omega arith))
