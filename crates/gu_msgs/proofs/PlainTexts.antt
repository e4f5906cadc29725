-- Values that can be encoded: names, ids, numbers, prices, days, moments and texts of refusals.
use Rattle.gu_msgs.proofs.Words.{◌≡◌, ℕ, ◌/◌, ◌%◌, ◌^◌, ◌<◌, ◌≤◌, ◌==◌, ◌&&◌, Bool, true, false, cond, List, [], ◌∷◌, ◌++◌, length, codes, pos, ℤ, IsTrue, refl, arith, int_lt, unsigned_abs, All, AllByRecursion, AllDigits, digit_value, and_parts, leb-true, le-leb, ne_eqb, ints, length-append, list_any_none, AllPass-from_list_all, has_soh, is_type_byte, is_type_text}
use Rattle.std.specs.Fmt.{decimal}
use Rattle.std.proofs.lemmas.Bool.Decides.{nat_tests}
use Rattle.std.proofs.lemmas.List.Elements.{All-append, All-from_recursion, All-weaker}
use Rattle.std.proofs.lemmas.Fmt.{decimal_is_IsNumeral, length-decimal-le}
use Rattle.gu_terms.specs.Names.{IsName, IsId, is_name_byte, is_id_byte}
use Rattle.gu_terms.specs.Numbers.{IsPrice}
use Rattle.gu_terms.specs.Refusals.{IsRefusalText, is_printed_byte}
use Rattle.gu_terms.specs.WrittenNumbers.{date_text, fraction_text, price_text, six_digits, trimmed_digits}
use Rattle.gu_terms.proofs.WrittenLemmas.{length-trimmed}
use Rattle.gu_msgs.specs.Encodable.{is_plain}
use Rattle.gu_msgs.specs.TestReqIds.{IsTestReqId}
use Rattle.gu_msgs.specs.MomentTexts.{WritesMoment, time_text}

-- a byte above SOH
abbrev IsAbove : ℕ → Type 0
IsAbove b = 2 ≤ b

-- one to 1,024 bytes without SOH can be encoded
plain_clean : (value : List ℕ) → 1 ≤ length value → length value ≤ 1024 → has_soh value ≡ false → is_plain value ≡ true
plain_clean value some most clean = rw (ne_eqb (length value) 0 (λ e. omega arith), clean, le-leb (length value) 1024 most) refl

-- so can bytes above SOH
plain_bytes : (value : List ℕ) → 1 ≤ length value → length value ≤ 1024 → All IsAbove value → is_plain value ≡ true
plain_bytes value some most each =
    plain_clean value some most (list_any_none _ value (All-weaker IsAbove _ (λ b above. ne_eqb b 1 (λ e. omega arith)) value each))

-- ---- names, ids and codes

name_above : (b : ℕ) → is_name_byte b ≡ true → IsAbove b
name_above b is = grind (arith, nat_tests)

id_above : (b : ℕ) → is_id_byte b ≡ true → IsAbove b
id_above b is = grind (arith, nat_tests)

type_above : (b : ℕ) → is_type_byte b ≡ true → IsAbove b
type_above b is = grind (arith, nat_tests)

printed_above : (b : ℕ) → is_printed_byte b ≡ true → IsAbove b
printed_above b is = grind (arith, nat_tests)

pub plain_name : (name : List ℕ) → IsName name → is_plain name ≡ true
plain_name name is = plain_bytes name is.some (omega (arith, is.most)) (All-weaker _ IsAbove name_above name is.each)

pub plain_id : (id : List ℕ) → IsId id → is_plain id ≡ true
plain_id id is = plain_bytes id is.some (omega (arith, is.most)) (All-weaker _ IsAbove id_above id is.each)

pub plain_refusal : (text : List ℕ) → IsRefusalText text → is_plain text ≡ true
plain_refusal text is = plain_bytes text is.some (omega (arith, is.most)) (All-weaker _ IsAbove printed_above text is.each)

pub plain_test_req_id : (id : List ℕ) → IsTestReqId id → is_plain id ≡ true
plain_test_req_id id is = plain_clean id is.some is.most is.clean

pub plain_code : (code : List ℕ) → IsTrue (is_type_text code) → is_plain code ≡ true
plain_code code is =
    let parts = and_parts _ _ is in
    let bounds = and_parts _ _ parts.0 in
    plain_bytes code (leb-true 1 (length code) bounds.0) (omega (arith, leb-true (length code) 3 bounds.1))
    (All-weaker _ IsAbove type_above code (AllPass-from_list_all is_type_byte code parts.1))

-- ---- numbers

digit_above : (b : ℕ) → digit_value b < 10 → IsAbove b
digit_above b is = grind (arith, nat_tests)

digits_above : (ds : List ℕ) → AllDigits 10 ds → AllByRecursion IsAbove ds
digits_above [] all = tt
digits_above (d ∷ ds) all = (digit_above d all.0, digits_above ds all.1)

decimal_above : (n : ℕ) → n < 2 ^ 64 → All IsAbove (decimal n)
decimal_above n small = All-from_recursion IsAbove (decimal n) (digits_above (decimal n) (decimal_is_IsNumeral n small).0.1)

decimal_some : (n : ℕ) → n < 2 ^ 64 → 1 ≤ length (decimal n)
decimal_some n small = (decimal_is_IsNumeral n small).0.0

decimal_short : (n : ℕ) → n < 2 ^ 64 → length (decimal n) ≤ 20
decimal_short n small = length-decimal-le 20 n (omega arith) (omega arith) small

pub plain_number : (n : ℕ) → n < 2 ^ 64 → is_plain (decimal n) ≡ true
plain_number n small = plain_bytes (decimal n) (decimal_some n small) (omega (arith, decimal_short n small)) (decimal_above n small)

-- an id, `-` and a number
pub plain_answer_id : (id : List ℕ) (n : ℕ) → IsId id → n < 2 ^ 64 → is_plain (id ++ 45 ∷ decimal n) ≡ true
plain_answer_id id n is small =
    let behind : All IsAbove (45 ∷ decimal n) = All-append IsAbove (45 ∷ []) (decimal n) (All-from_recursion IsAbove (45 ∷ []) (omega arith, tt)) (decimal_above n small) in
    plain_bytes (id ++ 45 ∷ decimal n)
    (omega (arith, length-append id (45 ∷ decimal n), is.some))
    (omega (arith, length-append id (45 ∷ decimal n), is.most, decimal_short n small))
    (All-append IsAbove id (45 ∷ decimal n) (All-weaker _ IsAbove id_above id is.each) behind)

-- a number, `-` and a letter
pub plain_side_id : (n letter : ℕ) → n < 2 ^ 64 → 2 ≤ letter → is_plain (decimal n ++ 45 ∷ letter ∷ []) ≡ true
plain_side_id n letter small above =
    plain_bytes (decimal n ++ 45 ∷ letter ∷ [])
    (omega (arith, length-append (decimal n) (45 ∷ letter ∷ [])))
    (omega (arith, length-append (decimal n) (45 ∷ letter ∷ []), decimal_short n small))
    (All-append IsAbove (decimal n) (45 ∷ letter ∷ []) (decimal_above n small) (All-from_recursion IsAbove (45 ∷ letter ∷ []) (omega arith, (above, tt))))

-- ---- prices

trimmed_above : (ds : List ℕ) → AllByRecursion IsAbove ds → AllByRecursion IsAbove (trimmed_digits ds)
trimmed_above [] all = tt
trimmed_above (d ∷ ds) all =
    let P : Bool → Type 0 = λ b. AllByRecursion IsAbove (cond b [] (d ∷ trimmed_digits ds)) in
    let at : (b : Bool) → P b = λ b. elim b as P [ true ↦ tt | false ↦ (all.0, trimmed_above ds all.1) ] in
    at (d == 48 && length (trimmed_digits ds) == 0)

six_above : (n : ℕ) → AllByRecursion IsAbove (six_digits n)
six_above n = (omega arith, (omega arith, (omega arith, (omega arith, (omega arith, (omega arith, tt))))))

fraction_above : (n : ℕ) → AllByRecursion IsAbove (fraction_text n)
unfolding fraction_text
fraction_above n =
    let P : Bool → Type 0 = λ b. AllByRecursion IsAbove (cond b [] (46 ∷ trimmed_digits (six_digits n))) in
    let at : (b : Bool) → P b = λ b. elim b as P [ true ↦ tt | false ↦ (omega arith, trimmed_above (six_digits n) (six_above n)) ] in
    at (n == 0)

length-fraction_text : (n : ℕ) → length (fraction_text n) ≤ 7
unfolding fraction_text
length-fraction_text n =
    let P : Bool → Type 0 = λ b. length (cond b [] (46 ∷ trimmed_digits (six_digits n))) ≤ 7 in
    let short = length-trimmed (six_digits n) in
    let at : (b : Bool) → P b = λ b. elim b as P [ true ↦ omega arith | false ↦ omega (arith, short) ] in
    at (n == 0)

sign_above : (b : Bool) → AllByRecursion IsAbove (cond b (codes "-") [])
sign_above true = (omega arith, tt)
sign_above false = tt

length-sign : (b : Bool) → length (cond b (codes "-") []) ≤ 1
length-sign true = omega arith
length-sign false = omega arith

pub plain_price : (z : ℤ) → IsPrice z → is_plain (price_text z) ≡ true
unfolding price_text
plain_price z is =
    let size = unsigned_abs z in
    let least = is.least in
    let most = is.most in
    let bounded : size ≤ 999999999999999 = omega (arith, ints, least, most) in
    let small : size / 1000000 < 2 ^ 64 = omega (arith, bounded) in
    let sign = cond (int_lt z (pos 0)) (codes "-") [] in
    let whole = decimal (size / 1000000) in
    let fraction = fraction_text (size % 1000000) in
    let front = length-append sign whole in
    let all = length-append (sign ++ whole) fraction in
    plain_bytes (sign ++ whole ++ fraction)
    (omega (arith, front, all, decimal_some (size / 1000000) small))
    (omega (arith, front, all, length-sign (int_lt z (pos 0)), decimal_short (size / 1000000) small, length-fraction_text (size % 1000000)))
    (All-append IsAbove (sign ++ whole) fraction
    (All-append IsAbove sign whole (All-from_recursion IsAbove sign (sign_above (int_lt z (pos 0)))) (decimal_above (size / 1000000) small))
    (All-from_recursion IsAbove fraction (fraction_above (size % 1000000))))

-- ---- days and moments

date_above : (year month day : ℕ) → AllByRecursion IsAbove (date_text year month day)
unfolding date_text
date_above year month day =
    (omega arith, (omega arith, (omega arith, (omega arith, (omega arith, (omega arith, (omega arith, (omega arith, tt))))))))

length-date_text : (year month day : ℕ) → length (date_text year month day) ≡ 8
unfolding date_text
length-date_text year month day = refl

pub plain_date : (year month day : ℕ) → is_plain (date_text year month day) ≡ true
plain_date year month day =
    let long = length-date_text year month day in
    plain_bytes (date_text year month day) (omega (arith, long)) (omega (arith, long)) (All-from_recursion IsAbove _ (date_above year month day))

time_above : (n : ℕ) → AllByRecursion IsAbove (time_text n)
unfolding time_text
time_above n = (
  omega arith,
  (
    omega arith,
    (
      omega arith,
      (
        omega arith,
        (
          omega arith,
          (
            omega arith,
            (omega arith, (omega arith, (omega arith, (omega arith, (omega arith, (omega arith, tt)))))),
          ),
        ),
      ),
    ),
  ),
)

length-time_text : (n : ℕ) → length (time_text n) ≡ 12
unfolding time_text
length-time_text n = refl

both_above : (xs ys : List ℕ) → AllByRecursion IsAbove xs → AllByRecursion IsAbove ys → AllByRecursion IsAbove (xs ++ ys)
both_above [] ys p q = q
both_above (x ∷ xs) ys p q = (p.0, both_above xs ys p.1 q)

moment_parts : (year month day n : ℕ) → is_plain (date_text year month day ++ codes "-" ++ time_text n) ≡ true
moment_parts year month day n =
    let date = date_text year month day in
    let front = length-append date (codes "-") in
    let all = length-append (date ++ codes "-") (time_text n) in
    let long : length (date ++ codes "-" ++ time_text n) ≡ 21 = omega (arith, front, all, length-date_text year month day, length-time_text n) in
    plain_bytes (date ++ codes "-" ++ time_text n) (omega (arith, long)) (omega (arith, long))
    (All-from_recursion IsAbove _
    (both_above (date ++ codes "-") (time_text n) (both_above date (codes "-") (date_above year month day) (omega arith, tt)) (time_above n)))

pub plain_moment : (moment : ℕ) (text : List ℕ) → WritesMoment moment text → is_plain text ≡ true
plain_moment moment text is =
    let date = is.writes_date in
    rw (is.parts, date.spelled) (moment_parts date.year date.month date.day (moment % 86400000))
