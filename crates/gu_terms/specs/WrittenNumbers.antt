-- Days and prices as they are written.
use Rattle.std.specs.Prelude.{◌==◌, ◌&&◌, ℕ, ℤ, pos, ◌+◌, ◌/◌, ◌%◌, List, [], ◌∷◌, ◌++◌, length, codes, int_lt, unsigned_abs, if◌then◌else◌}
use Rattle.std.specs.Fmt.{decimal}

-- a number below 100 as two digits
abbrev pub two_digits : ℕ → List ℕ
two_digits n = (48 + n / 10) ∷ (48 + n % 10) ∷ []

-- a number below 1,000,000 as six digits
abbrev pub six_digits : ℕ → List ℕ
six_digits n = two_digits (n / 10000) ++ two_digits (n / 100 % 100) ++ two_digits (n % 100)

-- the digits without trailing zeros
abbrev pub trimmed_digits : List ℕ → List ℕ
trimmed_digits [] = []
trimmed_digits (d ∷ ds) = if d == 48 && length (trimmed_digits ds) == 0 then [] else d ∷ trimmed_digits ds

-- a point and the millionths without trailing zeros; nothing if there are none
unfoldable pub fraction_text : ℕ → List ℕ
fraction_text n = if n == 0 then [] else 46 ∷ trimmed_digits (six_digits n)

-- a price in millionths: `-` if it is negative, its whole part and its fraction
unfoldable pub price_text : ℤ → List ℕ
price_text z =
    (if int_lt z (pos 0) then codes "-" else []) ++ decimal (unsigned_abs z / 1000000) ++ fraction_text (unsigned_abs z % 1000000)

-- a date as eight digits
unfoldable pub date_text : ℕ → ℕ → ℕ → List ℕ
date_text year month day = two_digits (year / 100) ++ two_digits (year % 100) ++ two_digits month ++ two_digits day
