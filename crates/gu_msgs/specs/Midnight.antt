-- The midnight at which a day begins (UTC).
use Rattle.std.specs.Prelude.{ℕ, ◌*◌, ℤ, pos, negsuc}
use Rattle.gu_terms.specs.declared.day.Day.{Day}
use Rattle.jiff_core.specs.Calendar.{days_from_civil}

-- a number, or 0 if it is negative
abbrev pub from_zero : ℤ → ℕ
from_zero (pos n) = n
from_zero (negsuc n) = 0

-- the milliseconds from 1970-01-01 to the day; no moment is before 1970, so an earlier day begins at the first moment
abbrev pub midnight_of : Day → ℕ
midnight_of day = 86400000 * from_zero (days_from_civil (pos day.year) day.month day.day)
