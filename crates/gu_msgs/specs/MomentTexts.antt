-- Moments as messages write them.
use Rattle.std.specs.Prelude.{◌≡◌, ℕ, pos, ◌/◌, ◌%◌, List, ◌++◌, codes}
use Rattle.jiff_core.specs.Calendar.{days_from_civil}
use Rattle.gu_terms.specs.Days.{IsDay}
use Rattle.gu_terms.specs.WrittenNumbers.{date_text, two_digits}
use Rattle.gu_fix.specs.WholeMessage.{three_digits}

-- a time of day in milliseconds: hours, minutes, seconds and thousandths
unfoldable pub time_text : ℕ → List ℕ
time_text n =
    two_digits (n / 3600000) ++ codes ":" ++ two_digits (n / 60000 % 60) ++ codes ":" ++ two_digits (n / 1000 % 60)
    ++ codes "." ++ three_digits (n % 1000)

-- the text is the date this many days after 1970-01-01
pub record WritesDateAfter (days : ℕ) (text : List ℕ) : Type 0 where
  pub year : ℕ
  pub month : ℕ
  pub day : ℕ
  pub there : IsDay year month day
  pub dated : days_from_civil (pos year) month day ≡ pos days
  pub spelled : text ≡ date_text year month day

-- the text is a moment (UTC): the date of its day, and the time on that day
pub record WritesMoment (moment : ℕ) (text : List ℕ) : Type 0 where
  pub date : List ℕ
  pub writes_date : WritesDateAfter (moment / 86400000) date
  pub parts : text ≡ date ++ codes "-" ++ time_text (moment % 86400000)
