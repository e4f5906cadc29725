use Rattle.std.proofs.Common.{◌<◌, get_or, arith, inl, inr}
use Rattle.std.specs.Char.{digit_value}
use Rattle.std.proofs.lemmas.Int.Digits.{digits_more, digits_value_more}
use Rattle.std.proofs.lemmas.Str.{digit_value_digit}
use Rattle.std.proofs.lemmas.Str.Parse.{digit_at}
use Rattle.gu_text.proofs.NumberLemmas.{first_digits}
use Rattle.gu_text.proofs.values.digits_said.Goals as goal

pub returns-then-not-is_ascii_digit : goal.returns-then-not-is_ascii_digit
returns-then-not-is_ascii_digit c all =
    let digit = digit_at c.args.word.now c.loop-place.place all c.loop-place-test.true in
    elim c.if-not-is_ascii_digit.ensures.cases [ inl low ↦ absurd (omega (arith, digit.0)) | inr high ↦ absurd (omega (arith, digit.1)) ]

pub overflow_mul-value : goal.overflow_mul-value
overflow_mul-value c =
    let inv = c.loop-place.invariant in
    let low = first_digits c.args.word.now c.loop-place.place c.requires inv.all in
    omega (arith, low, inv.value)

pub overflow_add-value : goal.overflow_add-value
overflow_add-value c =
    let inv = c.loop-place.invariant in
    let low = first_digits c.args.word.now c.loop-place.place c.requires inv.all in
    let byte = get_or c.args.word.now c.loop-place.place 0 in
    let digit : digit_value byte < 10 = c.if-not-is_ascii_digit.ensures.bound in
    let off = digit_value_digit byte c.if-not-is_ascii_digit.ensures.cases in
    omega (arith, low, inv.value, off, c.from.ensures, digit)

pub loop-place-preserved : goal.loop-place-preserved
loop-place-preserved c =
    let word = c.args.word.now in
    let place = c.loop-place.place in
    let inv = c.loop-place.invariant in
    let digit : digit_value (get_or word place 0) < 10 = c.if-not-is_ascii_digit.ensures.bound in
    let off = digit_value_digit (get_or word place 0) c.if-not-is_ascii_digit.ensures.cases in
    let next = digits_value_more 10 word place c.loop-place-test.true in
    record {
      all = digits_more 10 word place c.loop-place-test.true inv.all digit;
      value = omega (arith, next, inv.value, off, c.from.ensures);
    }
