use Rattle.std.proofs.Common.{◌≡◌, ◌∙◌, ◌-◌, ℕ, List, refl, ap, arith, drop, take, length, length-drop}
use Rattle.std.specs.Str.Parse.{digits_value}
use Rattle.std.proofs.lemmas.Bool.{false≢true}
use Rattle.std.proofs.lemmas.List.{take_all}
use Rattle.gu_terms.specs.Days.{IsDayText}
use Rattle.gu_terms.proofs.NumberLemmas.{digits_from, digits_until}
use Rattle.gu_terms.proofs.day.Day.read.Goals as goal

-- the year, the month and the day read are those in the text
day-whole : (text : List ℕ) → IsDayText text → take (length text - 6) (drop 6 text) ≡ drop 6 text
day-whole text is = take_all (length text - 6) (drop 6 text) (omega (arith, length-drop 6 text))

pub short_value-year-requires-clause-digits : goal.short_value-year-requires-clause-digits
short_value-year-requires-clause-digits c =
    let text : IsDayText c.args.text.now = c.is_day_text.ensures.0 c.if-not-is_day_text.false in
    digits_until 4 c.args.text.now text.digits

pub two_digit_value-month-requires-clause-digits : goal.two_digit_value-month-requires-clause-digits
two_digit_value-month-requires-clause-digits c =
    let text : IsDayText c.args.text.now = c.is_day_text.ensures.0 c.if-not-is_day_text.false in
    digits_until 2 _ (digits_from 4 c.args.text.now text.digits)

pub two_digit_value-day-requires-clause-digits : goal.two_digit_value-day-requires-clause-digits
two_digit_value-day-requires-clause-digits c =
    let text : IsDayText c.args.text.now = c.is_day_text.ensures.0 c.if-not-is_day_text.false in
    digits_until _ _ (digits_from 6 c.args.text.now text.digits)

pub returns-in-Some-clause-day : goal.returns-in-Some-clause-day
returns-in-Some-clause-day c = record {
  is_text = c.is_day_text.ensures.0 c.if-not-is_day_text.false;
  year_is = c.in-Some.ensures.same.0 ∙ c.short_value-year.ensures;
  month_is = c.in-Some.ensures.same.1 ∙ c.two_digit_value-month.ensures;
  day_is = c.in-Some.ensures.same.2 ∙ c.two_digit_value-day.ensures
      ∙ ap (digits_value 10) (day-whole c.args.text.now (c.is_day_text.ensures.0 c.if-not-is_day_text.false));
}

pub returns-in-Some-clause-out_of_range : goal.returns-in-Some-clause-out_of_range
returns-in-Some-clause-out_of_range c =
    let day = c.two_digit_value-day.ensures ∙ ap (digits_value 10) (day-whole c.args.text.now (c.is_day_text.ensures.0 c.if-not-is_day_text.false)) in
    let sound = rw (c.short_value-year.ensures, c.two_digit_value-month.ensures, day) at c.in-Some.ensures.sound in
    (λ is. absurd cc, λ apart. absurd (apart.1 (sound.0 refl)))

pub returns-in-None-clause-bad_number : goal.returns-in-None-clause-bad_number
returns-in-None-clause-bad_number c = (λ is text. cc, λ none. absurd (none (c.is_day_text.ensures.0 c.if-not-is_day_text.false)))

pub returns-in-None-clause-out_of_range : goal.returns-in-None-clause-out_of_range
returns-in-None-clause-out_of_range c =
    let text = c.is_day_text.ensures.0 c.if-not-is_day_text.false in
    let day = c.two_digit_value-day.ensures ∙ ap (digits_value 10) (day-whole c.args.text.now text) in
    let sound = rw (c.short_value-year.ensures, c.two_digit_value-month.ensures, day) at c.in-None.ensures.sound in
    (λ is. (text, λ there. false≢true (sound.1 there)), λ apart. refl)
