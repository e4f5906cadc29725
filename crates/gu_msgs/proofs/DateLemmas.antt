-- The years of days counted from 1970-01-01.
use Rattle.gu_msgs.proofs.Words.{◌≡◌, ◌≤◌, ◌⊎◌, inl, inr, ℕ, ℤ, pos, arith, ◌<ℤ◌, ◌≤ℤ◌, negsuc, unsigned_abs, cases_order, ints, IsBetween, day_count, days_from_civil, days_in_month, IsDay}
use Rattle.jiff_core.specs.Date.{epoch_day}
use Rattle.jiff_core.specs.declared.civil.date.Date.{Date}
use Rattle.jiff_core.proofs.CalendarLemmas.{day_count-lt_year}
use Rattle.jiff_core.proofs.SignedLemmas.{signed_arith}

-- such a day doesn't come before 1970-01-01
not_before : (d : Date) (n : ℕ) → epoch_day d ≡ pos n → day_count (pos 1970) 1 1 ≤ day_count d.year d.month d.day
unfolding days_from_civil
not_before d n e = omega (arith, signed_arith, e)

-- a year is from 1970 on, or before
sides : (y : ℤ) → (pos 1970 ≤ℤ y) ⊎ (y <ℤ pos 1970)
sides (pos n) =
    elim (cases_order n 1970) [
      | inl same ↦ inl (omega (arith, signed_arith))
      | inr (inl early) ↦ inr (omega (arith, signed_arith))
      | inr (inr late) ↦ inl (omega (arith, signed_arith))
    ]
sides (negsuc n) = inr (omega (arith, signed_arith))

pub late_year : (d : Date) (n : ℕ) → epoch_day d ≡ pos n → pos 1970 ≤ℤ d.year
late_year d n e =
    elim (sides d.year) [
      | inl late ↦ late
      | inr early ↦
          let before = day_count-lt_year d.year d.month d.day (pos 1970) 1 1 (d.year_in, d.month_in, d.day_in) (omega arith) early in
          let after = not_before d n e in
          absurd (omega (arith, before, after))
    ]

-- the year of such a day, as a number
pub year_number : (d : Date) → pos 1970 ≤ℤ d.year → pos (unsigned_abs d.year) ≡ d.year
year_number d late = omega (arith, ints)

-- such a day is in the years 1 to 9999
pub is_day : (d : Date) → pos 1970 ≤ℤ d.year → IsDay (unsigned_abs d.year) d.month d.day
is_day d late =
    let range = d.year_in in
    let m = d.month_in in
    let days = d.day_in in
    let same = year_number d late in
    let month : IsBetween (pos 1) (pos 12) (pos d.month) = (omega (arith, ints, m.0), omega (arith, ints, m.1)) in
    let day : IsBetween (pos 1) (pos (days_in_month d.year d.month)) (pos d.day) = (omega (arith, ints, days.0), omega (arith, ints, days.1)) in
    record {
      from = omega (arith, ints);
      until = omega (arith, ints);
      date = rw same (range, month, day);
    }
