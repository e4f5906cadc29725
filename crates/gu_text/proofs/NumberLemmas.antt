-- Words of digits.
use Rattle.std.proofs.Common.{◌≡◌, ◌<◌, ◌≤◌, ◌&&◌, ◌∷◌, [], ◌∙◌, ℕ, Bool, true, false, List, Option, None, Some, length, MatchOption, nat_le, cond, take, IsTrue, ◌↔◌, inl, inr, refl, sym, ap, arith}
use Rattle.std.specs.Char.{is_digit}
use Rattle.std.specs.List.{list_all}
use Rattle.std.specs.Str.Parse.{AllDigits, digits_value}
use Rattle.std.proofs.lemmas.Int.Digits.{digits_value-lt}
use Rattle.std.proofs.lemmas.Bool.{and_parts, cases_Bool}
use Rattle.std.proofs.lemmas.List.{length-take}
use Rattle.std.proofs.Math.Nat.{pow-le-pow_right}
use Rattle.gu_text.specs.SheetLines.{is_number, number_of}

-- bytes that pass the test are digits
pub digits_from_test : (word : List ℕ) → list_all (λ byte. is_digit byte 10) word ≡ true → AllDigits 10 word
digits_from_test [] h = tt
digits_from_test (b ∷ word) h =
    let t = and_parts (is_digit b 10) (list_all (λ byte. is_digit byte 10) word) h in
    (search (arith, t.0), digits_from_test word t.1)

-- digits pass the test
pub test_from_digits : (word : List ℕ) → AllDigits 10 word → list_all (λ byte. is_digit byte 10) word ≡ true
test_from_digits [] h = refl
test_from_digits (b ∷ word) h =
    let t : is_digit b 10 ≡ true = search (arith, h.0) in
    rw (t, test_from_digits word h.1) refl

-- the test of digits, as a value
digits_tested : (b : Bool) (word : List ℕ) → IsTrue b ↔ AllDigits 10 word → b ≡ list_all (λ byte. is_digit byte 10) word
digits_tested true word h = sym (test_from_digits word (h.0 refl))
digits_tested false word h =
    elim (cases_Bool (list_all (λ byte. is_digit byte 10) word)) [
      | inl hit ↦ let e : false ≡ true = h.1 (digits_from_test word hit) in cc
      | inr miss ↦ sym miss
    ]

-- twelve digits are less than 10^12
pub twelve_digits : (word : List ℕ) → AllDigits 10 word → length word ≤ 12 → digits_value 10 word < 1000000000000
twelve_digits word digits few =
    omega (arith, digits_value-lt 10 word digits, pow-le-pow_right {n = 10} (omega arith) few)

-- the first digits of a word of at most twelve bytes
pub first_digits : (word : List ℕ) (n : ℕ) → length word ≤ 12 → AllDigits 10 (take n word) → digits_value 10 (take n word) < 1000000000000
first_digits word n few all = twelve_digits (take n word) all (omega (arith, length-take n word, few))

-- the test of a word, as a value
pub number_tested : (word : List ℕ) (b : Bool) → 0 < length word → length word ≤ 12 → IsTrue b ↔ AllDigits 10 word → b ≡ is_number word
number_tested word b some few h =
    let low : nat_le 1 (length word) ≡ true = search (arith, some) in
    let high : nat_le (length word) 12 ≡ true = search (arith, few) in
    digits_tested b word h ∙ sym (ap (λ (t : Bool). t && nat_le (length word) 12 && list_all (λ byte. is_digit byte 10) word) low ∙ ap (λ (t : Bool). t && list_all (λ byte. is_digit byte 10) word) high)

-- the number by the value of the test
number_chosen : (word : List ℕ) (b : Bool) → b ≡ is_number word → cond b (Some (digits_value 10 word)) None ≡ number_of word
number_chosen word b is = ap (λ (t : Bool). cond t (Some (digits_value 10 word)) None) is

-- a word of one to twelve bytes, by its digits
pub number_read : (word : List ℕ) (o : Option ℕ) → 0 < length word → length word ≤ 12
    → MatchOption o (¬ AllDigits 10 word) (λ n. AllDigits 10 word × (n ≡ digits_value 10 word)) → o ≡ number_of word
number_read word None some few none = number_chosen word false (number_tested word false some few (λ h. cc, λ all. absurd (none all)))
number_read word (Some n) some few read = ap Some read.1 ∙ number_chosen word true (number_tested word true some few (λ h. read.0, λ all. refl))
