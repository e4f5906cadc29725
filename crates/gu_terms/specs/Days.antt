-- Days of the Gregorian calendar.
use Rattle.std.specs.Prelude.{◌≡◌, ℕ, pos, ◌+◌, ◌*◌, ◌≤◌, List, length, take, drop}
use Rattle.std.specs.Str.Parse.{AllDigits, digits_value}
use Rattle.jiff.specs.Words.{IsDate}

-- a date in the years 1 to 9999
pub record IsDay (year month day : ℕ) : Type 0 where
  pub from : 1 ≤ year
  pub until : year ≤ 9999
  pub date : IsDate (pos year) (pos month) (pos day)

-- the number that a date's eight digits make, by which days are ordered
abbrev pub date_number : ℕ → ℕ → ℕ → ℕ
date_number year month day = 10000 * year + 100 * month + day

-- the text is eight digits and nothing else
pub record IsDayText (text : List ℕ) : Type 0 where
  pub eight : length text ≡ 8
  pub digits : AllDigits 10 text

-- the year, the month and the day of the month in eight digits
abbrev pub year_of : List ℕ → ℕ
year_of text = digits_value 10 (take 4 text)

abbrev pub month_of : List ℕ → ℕ
month_of text = digits_value 10 (take 2 (drop 4 text))

abbrev pub day_of : List ℕ → ℕ
day_of text = digits_value 10 (drop 6 text)

-- the text is eight digits with this year, month and day of the month
pub record WritesDay (text : List ℕ) (year month day : ℕ) : Type 0 where
  pub is_text : IsDayText text
  pub year_is : year ≡ year_of text
  pub month_is : month ≡ month_of text
  pub day_is : day ≡ day_of text
