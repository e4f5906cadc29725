-- The text of the moment at which a day begins.
use Rattle.gu_msgs.proofs.Words.{◌≡◌, ◌*◌, ◌/◌, ◌%◌, ◌≤◌, ◌++◌, ℕ, ℤ, pos, List, codes, refl, sym, ap, ◌∙◌, subst, append_assoc, arith, ◌<ℤ◌, ◌≤ℤ◌, negsuc, ints, days_from_civil, IsDay}
use Rattle.jiff_core.specs.Date.{epoch_day}
use Rattle.jiff_core.specs.declared.civil.date.Date.{Date}
use Rattle.jiff_core.proofs.CalendarLemmas.{day_count-lt_year}
use Rattle.jiff_core.proofs.DateLemmas.{days_from_civil-next_year, epoch_day_injective}
use Rattle.jiff_core.proofs.SignedLemmas.{signed_arith}
use Rattle.gu_terms.specs.WrittenNumbers.{date_text}
use Rattle.gu_msgs.specs.Midnight.{from_zero}
use Rattle.gu_msgs.specs.MomentTexts.{WritesDateAfter, WritesMoment, time_text}

-- the days of dates from 1970 on count from 0
from_1970 : (d : Date) → pos 1970 ≤ℤ d.year → pos 0 ≤ℤ epoch_day d
unfolding days_from_civil
from_1970 d late =
    let range = d.day_in in
    let some : 1 ≤ d.day = range.0 in
    let year : pos 1969 <ℤ d.year = omega (arith, signed_arith, late) in
    let before = day_count-lt_year (pos 1969) 12 31 d.year d.month d.day ((omega (arith, ints), omega (arith, ints)), (omega arith, omega arith), (omega arith, omega arith)) some year in
    let next = days_from_civil-next_year (pos 1969) (pos 1970) (omega (arith, ints)) refl in
    omega (arith, signed_arith, before, next)

-- a date in the years 1 to 9999
abbrev date_of : (year month day : ℕ) → IsDay year month day → Date
date_of year month day is =
    let d = is.date in
    record {
      year = pos year;
      month = month;
      day = day;
      year_in = d.0;
      month_in = (omega (arith, ints, d.1.0), omega (arith, ints, d.1.1));
      day_in = (omega (arith, ints, d.2.0), omega (arith, ints, d.2.1));
    }

from_zero-pos : (z : ℤ) → pos 0 ≤ℤ z → pos (from_zero z) ≡ z
from_zero-pos (pos n) some = refl
from_zero-pos (negsuc n) some = absurd (omega (arith, ints, some))

time_text-zero : time_text 0 ≡ codes "00:00:00.000"
unfolding time_text
time_text-zero = refl

-- the date this many days after 1970-01-01 is unique
one_date : (d : Date) (n : ℕ) (year month day : ℕ) (text : List ℕ) → epoch_day d ≡ pos n → d.year ≡ pos year → d.month ≡ month → d.day ≡ day
    → WritesDateAfter n text → text ≡ date_text year month day
one_date d n year month day text days years months ds writes =
    let other = date_of writes.year writes.month writes.day writes.there in
    let same = epoch_day_injective other d (writes.dated ∙ sym days) in
    let y : pos writes.year ≡ pos year = same.0 ∙ years in
    let ys : writes.year ≡ year = cc in
    let ms : writes.month ≡ month = same.1 ∙ months in
    let days_are : writes.day ≡ day = same.2 ∙ ds in
    writes.spelled ∙ ap (λ (y : ℕ). date_text y writes.month writes.day) ys ∙ ap (λ (m : ℕ). date_text year m writes.day) ms ∙ ap (λ (x : ℕ). date_text year month x) days_are

pub midnight_text : (d : Date) (moment year month day : ℕ) (text : List ℕ) → moment ≡ 86400000 * from_zero (epoch_day d)
    → d.year ≡ pos year → d.month ≡ month → d.day ≡ day → 1970 ≤ year → WritesMoment moment text
    → text ≡ date_text year month day ++ codes "-00:00:00.000"
midnight_text d moment year month day text at years months days late writes =
    let n = from_zero (epoch_day d) in
    let from : pos 1970 ≤ℤ d.year = rw years (omega (arith, ints, late)) in
    let counted : epoch_day d ≡ pos n = sym (from_zero-pos (epoch_day d) (from_1970 d from)) in
    let whole : moment / 86400000 ≡ n = omega (arith, at) in
    let none : moment % 86400000 ≡ 0 = omega (arith, at) in
    let dated : WritesDateAfter n writes.date = subst (λ (k : ℕ). WritesDateAfter k writes.date) whole writes.writes_date in
    let date : writes.date ≡ date_text year month day = one_date d n year month day writes.date counted years months days dated in
    let time : time_text (moment % 86400000) ≡ codes "00:00:00.000" = ap time_text none ∙ time_text-zero in
    let parts = writes.parts in
    parts ∙ rw (date, time) (append_assoc (date_text year month day) (codes "-") (codes "00:00:00.000"))
