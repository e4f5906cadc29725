-- Digits, as a property and as a test.
use Rattle.gu_msgs.proofs.Words.{◌≡◌, ◌<◌, ◌≤◌, ◌^◌, ℕ, Bool, true, false, List, [], ◌∷◌, IsTrue, ◌↔◌, arith, length, refl, sym, take, nat_lt, digit_value, list_all, AllDigits, digits_value, pow-le-pow_right, ltb-true, lt-ltb, and_parts, digits_value-lt, length-take, is_numeral}

-- a byte is a digit
is_digit : ℕ → Bool
is_digit b = nat_lt (digit_value b) 10

pub digits_from_test : (text : List ℕ) → list_all (λ b. nat_lt (digit_value b) 10) text ≡ true → AllDigits 10 text
digits_from_test [] h = tt
digits_from_test (b ∷ bs) h =
    let parts = and_parts _ _ h in
    (ltb-true (digit_value b) 10 parts.0, digits_from_test bs parts.1)

test_from_digits : (text : List ℕ) → AllDigits 10 text → list_all (λ b. nat_lt (digit_value b) 10) text ≡ true
test_from_digits [] h = refl
test_from_digits (b ∷ bs) h = rw (lt-ltb (digit_value b) 10 h.0, test_from_digits bs h.1) refl

-- an answer to whether the bytes are digits is that of the test
pub is_digits_test : (text : List ℕ) (answer : Bool) → (IsTrue answer ↔ AllDigits 10 text) → answer ≡ list_all (λ b. nat_lt (digit_value b) 10) text
is_digits_test text true h = sym (test_from_digits text (h.0 refl))
is_digits_test text false h =
    let no_test : (b : Bool) → list_all (λ b. nat_lt (digit_value b) 10) text ≡ b → false ≡ b = λ b. elim b as (λ v. list_all (λ b. nat_lt (digit_value b) 10) text ≡ v → false ≡ v) [ true ↦ (λ e. h.1 (digits_from_test text e)) | false ↦ (λ e. refl) ] in
    no_test _ refl

-- a numeral's bytes are digits
pub numeral_digits : (text : List ℕ) → IsTrue (is_numeral text) → AllDigits 10 text
numeral_digits text h = digits_from_test text (and_parts _ _ h).1

-- digits, at least one, are a numeral
pub numeral_from_digits : (text : List ℕ) → 0 < length text → AllDigits 10 text → IsTrue (is_numeral text)
numeral_from_digits text some all = rw (lt-ltb 0 (length text) some, test_from_digits text all) refl

-- the first of at most nine digits are a small number
pub value_short : (text : List ℕ) (count : ℕ) → AllDigits 10 (take count text) → length text ≤ 9 → digits_value 10 (take count text) < 1000000000
value_short text count all few =
    let bound = digits_value-lt 10 (take count text) all in
    let fewer : length (take count text) ≤ 9 = omega (arith, few, length-take count text) in
    let power : 10 ^ length (take count text) ≤ 10 ^ 9 = pow-le-pow_right {n = 10} (omega arith) fewer in
    omega arith
