use Rattle.std.proofs.Common.{◌+◌, get_or, arith}
use Rattle.std.proofs.lemmas.Int.Digits.{digits_value_more}
use Rattle.std.proofs.lemmas.Str.{digit_value_digit}
use Rattle.std.proofs.lemmas.Str.Parse.{digit_at, digits_value-take-le}
use Rattle.gu_terms.proofs.number_text.value_of.Goals as goal

pub overflow_sub-digit : goal.overflow_sub-digit
overflow_sub-digit c = (digit_at c.args.digits.now c.loop-digit.digit-index c.requires.digits c.loop-digit-test.true).0

pub returns-then-value-most : goal.returns-then-value-most
returns-then-value-most c =
    let digits = c.args.digits.now in
    let i = c.loop-digit.digit-index in
    let digit = digit_at digits i c.requires.digits c.loop-digit-test.true in
    let off = digit_value_digit (get_or digits i 0) digit in
    let next = digits_value_more 10 digits i c.loop-digit-test.true in
    let grows = digits_value-take-le 10 digits (i + 1) (omega arith) in
    omega (arith, next, off, grows, digit.0, c.loop-digit.invariant.value, c.from.ensures, c.if-value-most.true)

pub loop-digit-preserved : goal.loop-digit-preserved
loop-digit-preserved c =
    let digits = c.args.digits.now in
    let i = c.loop-digit.digit-index in
    let digit = digit_at digits i c.requires.digits c.loop-digit-test.true in
    let off = digit_value_digit (get_or digits i 0) digit in
    let next = digits_value_more 10 digits i c.loop-digit-test.true in
    record {
      value = omega (arith, next, off, digit.0, c.loop-digit.invariant.value, c.from.ensures);
      within = omega (arith, c.if-value-most.false);
    }
