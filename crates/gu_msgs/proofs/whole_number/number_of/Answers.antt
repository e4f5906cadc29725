use Rattle.gu_msgs.proofs.Words.{◌+◌, get_or, arith, digits_value_more}
use Rattle.std.proofs.lemmas.Str.{digit_value_digit}
use Rattle.std.proofs.lemmas.Str.Parse.{digit_at, digits_value-take-le}
use Rattle.gu_msgs.proofs.Numerals.{numeral_digits}
use Rattle.gu_msgs.proofs.whole_number.number_of.Goals as goal

pub with_digit-requires : goal.with_digit-requires
with_digit-requires c = (digit_at c.args.text.now c.loop-digit.digit-index (numeral_digits c.args.text.now c.requires) c.loop-digit-test.true).0

pub returns-in-None : goal.returns-in-None
returns-in-None c =
    let text = c.args.text.now in
    let i = c.loop-digit.digit-index in
    let off = digit_value_digit (get_or text i 0) (digit_at text i (numeral_digits text c.requires) c.loop-digit-test.true) in
    let next = digits_value_more 10 text i c.loop-digit-test.true in
    let grows = digits_value-take-le 10 text (i + 1) (omega arith) in
    omega (arith, next, off, grows, c.loop-digit.invariant, c.in-None.ensures)

pub loop-digit-preserved : goal.loop-digit-preserved
loop-digit-preserved c =
    let text = c.args.text.now in
    let i = c.loop-digit.digit-index in
    let off = digit_value_digit (get_or text i 0) (digit_at text i (numeral_digits text c.requires) c.loop-digit-test.true) in
    let next = digits_value_more 10 text i c.loop-digit-test.true in
    omega (arith, next, off, c.loop-digit.invariant, c.in-Some.ensures)
