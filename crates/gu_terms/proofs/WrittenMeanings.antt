-- The texts written for days and prices mean them.
use Rattle.std.proofs.Common.{◌≡◌, ◌==◌, ◌&&◌, ◌||◌, ◌<◌, ◌≤◌, ◌+◌, ◌*◌, ◌^◌, ◌/◌, ◌%◌, ◌++◌, ◌∙◌, ℕ, ℤ, pos, neg_ℤ, negsuc, Bool, true, false, cond, List, [], ◌∷◌, length, take, drop, codes, refl, ap, sym, subst, arith}
use Rattle.std.specs.Prelude.{int_lt, unsigned_abs}
use Rattle.std.specs.Char.{digit_value}
use Rattle.std.specs.Fmt.{decimal}
use Rattle.std.specs.List.{after_first, before_first, position_or_len}
use Rattle.std.specs.Str.Parse.{AllDigits, IsNumeral, digits_value}
use Rattle.std.proofs.Math.Nat.{mul_left_comm, mul_right_comm, add-mul, pow-succ'}
use Rattle.std.proofs.Math.ListN.{drop_of_length-le}
use Rattle.std.proofs.Math.Seq.{drop-append-add, take-append_seam, take-length}
use Rattle.std.proofs.lemmas.Bool.{and_parts}
use Rattle.std.proofs.lemmas.Bool.Decides.{nat_tests}
use Rattle.std.proofs.lemmas.Fmt.{decimal_is_IsNumeral}
use Rattle.std.proofs.lemmas.Int.{ints}
use Rattle.std.proofs.lemmas.List.{append-nil}
use Rattle.jiff.specs.Words.{days_in_month, is_leap_year}
use Rattle.gu_terms.specs.Days.{IsDay, WritesDay}
use Rattle.gu_terms.specs.NumberText.{CountsMillionths, IsTakenApart, MeansLots, MeansPrice, fraction_digits, has_minus, unsigned_text, whole_digits}
use Rattle.gu_terms.specs.Numbers.{IsLots, IsPrice}
use Rattle.gu_terms.specs.WrittenNumbers.{date_text, fraction_text, price_text, six_digits, trimmed_digits, two_digits}
use Rattle.gu_terms.proofs.NumberLemmas.{digits_value-append, parts_mean_lots, parts_mean_price}

-- ---- digits

digit : (k : ℕ) → k < 10 → digit_value (48 + k) ≡ k
digit k small = grind (arith, nat_tests)

two_are_digits : (n : ℕ) → n < 100 → AllDigits 10 (two_digits n)
two_are_digits n small = (omega (arith, digit (n / 10) (omega arith)), (omega (arith, digit (n % 10) (omega arith)), tt))

two_value : (n : ℕ) → n < 100 → digits_value 10 (two_digits n) ≡ n
two_value n small =
    let first = digit (n / 10) (omega arith) in
    let second = digit (n % 10) (omega arith) in
    omega (arith, first, second)

both_are_digits : (xs ys : List ℕ) → AllDigits 10 xs → AllDigits 10 ys → AllDigits 10 (xs ++ ys)
both_are_digits [] ys p q = q
both_are_digits (x ∷ xs) ys p q = (p.0, both_are_digits xs ys p.1 q)

-- ---- days

month_is_short : (y : ℤ) (m : ℕ) → days_in_month y m ≤ 31
month_is_short y m = first (m == 2)
  where
    leap : (b : Bool) → cond b 29 28 ≤ 31
    leap true = omega arith
    leap false = omega arith

    other : (b : Bool) → cond b 30 31 ≤ 31
    other true = omega arith
    other false = omega arith

    first : (b : Bool) → cond b (cond (is_leap_year y) 29 28) (cond ((m == 4) || (m == 6) || (m == 9) || (m == 11)) 30 31) ≤ 31
    first true = leap (is_leap_year y)
    first false = other ((m == 4) || (m == 6) || (m == 9) || (m == 11))

-- a month and a day of the month have two digits
pub day_is_short : (year month day : ℕ) → IsDay year month day → (month < 100) × (day < 100)
day_is_short year month day is =
    let months = is.date.1.1 in
    let days = is.date.2.1 in
    let most = month_is_short (pos year) month in
    (omega (arith, ints, months), omega (arith, ints, days, most))

date_is_text : (year month day : ℕ) → IsDay year month day → AllDigits 10 (date_text year month day)
unfolding date_text
date_is_text year month day is =
    let short = day_is_short year month day is in
    let years = both_are_digits (two_digits (year / 100)) (two_digits (year % 100)) (two_are_digits (year / 100) (omega (arith, is.until))) (two_are_digits (year % 100) (omega arith)) in
    let months = both_are_digits (two_digits (year / 100) ++ two_digits (year % 100)) (two_digits month) years (two_are_digits month short.0) in
    both_are_digits (two_digits (year / 100) ++ two_digits (year % 100) ++ two_digits month) (two_digits day) months (two_are_digits day short.1)

pub date_text_writes : (year month day : ℕ) → IsDay year month day → WritesDay (date_text year month day) year month day
unfolding date_text
date_text_writes year month day is = record {
  is_text = record { eight = refl; digits = date_is_text year month day is };
  year_is =
      omega (arith, digits_value-append (two_digits (year / 100)) (two_digits (year % 100)), two_value (year / 100) (omega (arith, is.until)), two_value (year % 100) (omega arith));
  month_is = sym (two_value month (day_is_short year month day is).0);
  day_is = sym (two_value day (day_is_short year month day is).1);
}

-- ---- prices

six_are_digits : (n : ℕ) → n < 1000000 → AllDigits 10 (six_digits n)
six_are_digits n small =
    let front = both_are_digits (two_digits (n / 10000)) (two_digits (n / 100 % 100)) (two_are_digits (n / 10000) (omega arith)) (two_are_digits (n / 100 % 100) (omega arith)) in
    both_are_digits (two_digits (n / 10000) ++ two_digits (n / 100 % 100)) (two_digits (n % 100)) front (two_are_digits (n % 100) (omega arith))

six_value : (n : ℕ) → n < 1000000 → digits_value 10 (six_digits n) ≡ n
six_value n small =
    let first = two_value (n / 10000) (omega arith) in
    let second = two_value (n / 100 % 100) (omega arith) in
    let third = two_value (n % 100) (omega arith) in
    let front = digits_value-append (two_digits (n / 10000)) (two_digits (n / 100 % 100)) in
    let all = digits_value-append (two_digits (n / 10000) ++ two_digits (n / 100 % 100)) (two_digits (n % 100)) in
    omega (arith, first, second, third, front, all)

trimmed_are_digits : (ds : List ℕ) → AllDigits 10 ds → AllDigits 10 (trimmed_digits ds)
trimmed_are_digits [] all = tt
trimmed_are_digits (d ∷ ds) all =
    let P : Bool → Type 0 = λ b. AllDigits 10 (cond b [] (d ∷ trimmed_digits ds)) in
    let at : (b : Bool) → P b = λ b. elim b as P [ true ↦ tt | false ↦ (all.0, trimmed_are_digits ds all.1) ] in
    at (d == 48 && length (trimmed_digits ds) == 0)

none : (ds : List ℕ) → (length ds == 0) ≡ true → ds ≡ []
none [] is = refl
none (d ∷ ds) is = absurd (grind (arith, nat_tests))

-- trimmed digits mean the same fraction of a unit
trimmed_value : (ds : List ℕ) → digits_value 10 (trimmed_digits ds) * 10 ^ length ds ≡ digits_value 10 ds * 10 ^ length (trimmed_digits ds)
trimmed_value [] = refl
trimmed_value (d ∷ ds) =
    let before = trimmed_value ds in
    let t = trimmed_digits ds in
    let P : Bool → Type 0 = λ b. digits_value 10 (cond b [] (d ∷ t)) * 10 ^ length (d ∷ ds) ≡ digits_value 10 (d ∷ ds) * 10 ^ length (cond b [] (d ∷ t)) in
    let value = digits_value-append (d ∷ []) ds in
    let goes : (d == 48 && length t == 0) ≡ true → P true = λ is.
    let parts = and_parts (d == 48) (length t == 0) is in
    let zero_is : d ≡ 48 = grind (arith, nat_tests) in
    let nothing : t ≡ [] = none t parts.1 in
    let nil : digits_value 10 ds ≡ 0 = omega (arith, before, ap (λ (x : List ℕ). digits_value 10 x * 10 ^ length ds) nothing, ap (λ (x : List ℕ). digits_value 10 ds * 10 ^ length x) nothing) in
    let first : digits_value 10 (d ∷ []) ≡ 0 = ap (λ (x : ℕ). digits_value 10 (x ∷ [])) zero_is in
    omega (arith, value, nil, ap (λ (x : ℕ). x * 10 ^ length ds) first) in
    let stays : P false =
    let v = digits_value 10 (d ∷ []) in
    let p = 10 ^ length ds in
    let q = 10 ^ length t in
    let left = digits_value-append (d ∷ []) t in
    let longer : 10 ^ length (d ∷ ds) ≡ 10 * p = pow-succ' 10 (length ds) in
    let shorter : 10 ^ length (d ∷ t) ≡ 10 * q = pow-succ' 10 (length t) in
    let even = scaled v (digits_value 10 t) (digits_value 10 ds) p q before in
    ap (λ (n : ℕ). n * 10 ^ length (d ∷ ds)) left
    ∙ ap (λ (n : ℕ). (v * q + digits_value 10 t) * n) longer
    ∙ even
    ∙ ap (λ (n : ℕ). (v * p + digits_value 10 ds) * n) (sym shorter)
    ∙ ap (λ (n : ℕ). n * 10 ^ length (d ∷ t)) (sym value) in
    let at : (b : Bool) → (d == 48 && length t == 0) ≡ b → P b = λ b. elim b as (λ b. (d == 48 && length t == 0) ≡ b → P b) [ true ↦ goes | false ↦ (λ _. stays) ] in
    at (d == 48 && length t == 0) refl
  where
    scaled : (v x y p q : ℕ) → x * p ≡ y * q → (v * q + x) * (10 * p) ≡ (v * p + y) * (10 * q)
    scaled v x y p q e =
        omega (
          arith,
          add-mul (v * q) x (10 * p),
          add-mul (v * p) y (10 * q),
          mul_left_comm (v * q) 10 p,
          mul_left_comm (v * p) 10 q,
          mul_left_comm x 10 p,
          mul_left_comm y 10 q,
          mul_right_comm v q p,
          e,
        )

-- no digit is a point
not_point : (b : ℕ) → digit_value b < 10 → (b == 46) ≡ false
not_point b is = grind (arith, nat_tests)

-- no digit is a minus
not_minus : (b : ℕ) → digit_value b < 10 → (b == 45) ≡ false
not_minus b is = grind (arith, nat_tests)

-- the first point comes after these digits
point_after : (ds rest : List ℕ) → AllDigits 10 ds → position_or_len (λ b. b == 46) (ds ++ rest) ≡ length ds + position_or_len (λ b. b == 46) rest
point_after [] rest all = omega arith
point_after (d ∷ ds) rest all = rw (not_point d all.0) (omega (arith, point_after ds rest all.1))

-- the digits before and after the point
before_point : (ds more : List ℕ) → AllDigits 10 ds → before_first (λ b. b == 46) (ds ++ 46 ∷ more) ≡ ds
before_point ds more all =
    let at : position_or_len (λ b. b == 46) (ds ++ 46 ∷ more) ≡ length ds = omega (arith, point_after ds (46 ∷ more) all) in
    ap (λ (n : ℕ). take n (ds ++ 46 ∷ more)) at ∙ take-append_seam ds (46 ∷ more)

after_point : (ds more : List ℕ) → AllDigits 10 ds → after_first (λ b. b == 46) (ds ++ 46 ∷ more) ≡ more
after_point ds more all =
    let at : position_or_len (λ b. b == 46) (ds ++ 46 ∷ more) ≡ length ds = omega (arith, point_after ds (46 ∷ more) all) in
    ap (λ (n : ℕ). drop (n + 1) (ds ++ 46 ∷ more)) at ∙ drop-append-add ds (46 ∷ more) 1

-- without a point, all digits are before it
no_point : (ds : List ℕ) → AllDigits 10 ds → position_or_len (λ b. b == 46) ds ≡ length ds
no_point ds all = omega (arith, point_after ds [] all, ap (λ (xs : List ℕ). position_or_len (λ b. b == 46) xs) (append-nil ds))

before_none : (ds : List ℕ) → AllDigits 10 ds → before_first (λ b. b == 46) ds ≡ ds
before_none ds all = ap (λ (n : ℕ). take n ds) (no_point ds all) ∙ take-length ds

after_none : (ds : List ℕ) → AllDigits 10 ds → after_first (λ b. b == 46) ds ≡ []
after_none ds all = ap (λ (n : ℕ). drop (n + 1) ds) (no_point ds all) ∙ drop_of_length-le ds (omega arith)

-- ---- a text is taken apart

-- a minus before digits and the rest
abbrev pub signed : Bool → List ℕ → List ℕ
signed true text = 45 ∷ text
signed false text = text

has_minus-signed : (b : Bool) (ds rest : List ℕ) → AllDigits 10 ds → 1 ≤ length ds → has_minus (signed b (ds ++ rest)) ≡ b
has_minus-signed true ds rest all some = refl
has_minus-signed false [] rest all some = absurd (omega arith)
has_minus-signed false (d ∷ ds) rest all some = not_minus d all.0

unsigned-signed : (b : Bool) (ds rest : List ℕ) → AllDigits 10 ds → 1 ≤ length ds → unsigned_text (signed b (ds ++ rest)) ≡ ds ++ rest
unsigned-signed true ds rest all some = refl
unsigned-signed false [] rest all some = absurd (omega arith)
unsigned-signed false (d ∷ ds) rest all some = rw (not_minus d all.0) refl

-- digits without a point
pub whole_apart : (b : Bool) (ds : List ℕ) → AllDigits 10 ds → 1 ≤ length ds → IsTakenApart (signed b (ds ++ [])) b ds []
whole_apart b ds all some =
    let body : unsigned_text (signed b (ds ++ [])) ≡ ds = unsigned-signed b ds [] all some ∙ append-nil ds in
    let whole : ds ≡ whole_digits (signed b (ds ++ [])) = sym (ap (λ (t : List ℕ). before_first (λ b. b == 46) t) body ∙ before_none ds all) in
    let fraction : [] ≡ fraction_digits (signed b (ds ++ [])) = sym (ap (λ (t : List ℕ). after_first (λ b. b == 46) t) body ∙ after_none ds all) in
    record {
      is_number = record {
        whole = subst (λ (t : List ℕ). AllDigits 10 t) whole all;
        fraction = subst (λ (t : List ℕ). AllDigits 10 t) fraction tt;
        some = omega (arith, ap (λ (t : List ℕ). length t) whole);
      };
      sign_is = sym (has_minus-signed b ds [] all some);
      whole_is = whole;
      fraction_is = fraction;
    }

-- digits, a point and more digits
pub parts_apart : (b : Bool) (ds more : List ℕ) → AllDigits 10 ds → AllDigits 10 more → 1 ≤ length ds → IsTakenApart (signed b (ds ++ 46 ∷ more)) b ds more
parts_apart b ds more all all_more some =
    let body : unsigned_text (signed b (ds ++ 46 ∷ more)) ≡ ds ++ 46 ∷ more = unsigned-signed b ds (46 ∷ more) all some in
    let whole : ds ≡ whole_digits (signed b (ds ++ 46 ∷ more)) = sym (ap (λ (t : List ℕ). before_first (λ b. b == 46) t) body ∙ before_point ds more all) in
    let fraction : more ≡ fraction_digits (signed b (ds ++ 46 ∷ more)) = sym (ap (λ (t : List ℕ). after_first (λ b. b == 46) t) body ∙ after_point ds more all) in
    record {
      is_number = record {
        whole = subst (λ (t : List ℕ). AllDigits 10 t) whole all;
        fraction = subst (λ (t : List ℕ). AllDigits 10 t) fraction all_more;
        some = omega (arith, ap (λ (t : List ℕ). length t) whole);
      };
      sign_is = sym (has_minus-signed b ds (46 ∷ more) all some);
      whole_is = whole;
      fraction_is = fraction;
    }

-- ---- lots and prices

-- a number of lots is read back
pub decimal_means_lots : (n : ℕ) → IsLots n → MeansLots (decimal n) n
decimal_means_lots n is =
    let numeral = decimal_is_IsNumeral n (omega (arith, is.most)) in
    let apart = whole_apart false (decimal n) numeral.0.1 numeral.0.0 in
    let plain : signed false (decimal n ++ []) ≡ decimal n = signed_plain (decimal n) in
    subst (λ (t : List ℕ). MeansLots t n) plain (parts_mean_lots apart refl (sym numeral.1) refl is)
  where
    signed_plain : (ds : List ℕ) → signed false (ds ++ []) ≡ ds
    signed_plain ds = append-nil ds

-- a price is a sign and a size below 1,000,000,000 units
price_is_small : (z : ℤ) → IsPrice z → unsigned_abs z ≤ 999999999999999
price_is_small z is =
    let least = is.least in
    let most = is.most in
    omega (arith, ints, least, most)

not_below : (n : ℕ) → int_lt (pos n) (pos 0) ≡ false
not_below n = grind (arith, ints, nat_tests)

signed_size : (z : ℤ) → z ≡ cond (int_lt z (pos 0)) (neg_ℤ (pos (unsigned_abs z))) (pos (unsigned_abs z))
signed_size (pos n) = rw (not_below n) refl
signed_size (negsuc n) = refl

price_as_signed : (z : ℤ) → price_text z ≡ signed (int_lt z (pos 0)) (decimal (unsigned_abs z / 1000000) ++ fraction_text (unsigned_abs z % 1000000))
unfolding price_text
price_as_signed z = by (int_lt z (pos 0))
  where
    by : (b : Bool) → cond b (codes "-") [] ++ decimal (unsigned_abs z / 1000000) ++ fraction_text (unsigned_abs z % 1000000) ≡ signed b (decimal (unsigned_abs z / 1000000) ++ fraction_text (unsigned_abs z % 1000000))
    by true = refl
    by false = refl

-- trimmed digits count the millionths of six digits
trimmed_count : (ds : List ℕ) (n : ℕ) → length ds ≡ 6 → digits_value 10 ds ≡ n → CountsMillionths (trimmed_digits ds) n
trimmed_count ds n six is =
    sym (ap (λ (k : ℕ). digits_value 10 (trimmed_digits ds) * 10 ^ k) six) ∙ trimmed_value ds ∙ ap (λ (k : ℕ). k * 10 ^ length (trimmed_digits ds)) is

-- a price as its units and six digits of millionths
by_digits : (z : ℤ) (units millionths : ℕ) → IsPrice z → units ≡ unsigned_abs z / 1000000 → millionths ≡ unsigned_abs z % 1000000
    → (ds : List ℕ) → length ds ≡ 6 → AllDigits 10 ds → digits_value 10 ds ≡ millionths
    → (b : Bool) → (millionths == 0) ≡ b → MeansPrice (signed (int_lt z (pos 0)) (decimal units ++ cond b [] (46 ∷ trimmed_digits ds))) z
by_digits z units millionths is units_are millionths_are ds six all writes b tells = at b tells
  where
    small : unsigned_abs z ≤ 999999999999999
    small = price_is_small z is

    numeral : IsNumeral 10 (decimal units) × (digits_value 10 (decimal units) ≡ units)
    numeral = decimal_is_IsNumeral units (omega (arith, small))

    sized : (n : ℕ) → n ≡ unsigned_abs z → z ≡ cond (int_lt z (pos 0)) (neg_ℤ (pos n)) (pos n)
    sized n e = signed_size z ∙ ap (λ (k : ℕ). cond (int_lt z (pos 0)) (neg_ℤ (pos k)) (pos k)) (sym e)

    at : (b : Bool) → (millionths == 0) ≡ b → MeansPrice (signed (int_lt z (pos 0)) (decimal units ++ cond b [] (46 ∷ trimmed_digits ds))) z
    at true tells =
        let none : millionths ≡ 0 = grind (arith, nat_tests) in
        parts_mean_price units 0 (whole_apart (int_lt z (pos 0)) (decimal units) numeral.0.1 numeral.0.0) (sym numeral.1) (omega (arith, small)) (omega arith) refl
        (sized (units * 1000000 + 0) (omega arith))
    at false tells =
        parts_mean_price units millionths
        (parts_apart (int_lt z (pos 0)) (decimal units) (trimmed_digits ds) numeral.0.1 (trimmed_are_digits ds all) numeral.0.0)
        (sym numeral.1) (omega (arith, small)) (omega arith)
        (trimmed_count ds millionths six writes)
        (sized (units * 1000000 + millionths) (omega arith))

-- a price is read back
pub price_text_means : (z : ℤ) → IsPrice z → MeansPrice (price_text z) z
unfolding fraction_text
price_text_means z is =
    let millionths = unsigned_abs z % 1000000 in
    let few : millionths < 1000000 = omega arith in
    subst (λ (t : List ℕ). MeansPrice t z) (sym (price_as_signed z))
    (by_digits z (unsigned_abs z / 1000000) millionths is refl refl (six_digits millionths) refl (six_are_digits millionths few) (six_value millionths few) (millionths == 0) refl)
