use Rattle.gu_msgs.proofs.Words.{◌≡◌, ◌<◌, get_or, subst, take, ◌∙◌, ap, sym, arith, digits_value_more, digits_more, take_all, digit_value, AllDigits, digits_value}
use Rattle.std.proofs.lemmas.Str.{digit_value_digit}
use Rattle.gu_msgs.proofs.Numerals.{numeral_from_digits, value_short}
use Rattle.gu_msgs.proofs.whole_number.short_number.Goals as goal

pub overflow_mul-number : goal.overflow_mul-number
overflow_mul-number c =
    let inv = c.loop-byte.invariant in
    omega (arith, inv.value, value_short c.args.text.now c.loop-byte.byte-index inv.all (omega (arith, c.if-text-gt-FEW.false)))

pub overflow_add-number : goal.overflow_add-number
overflow_add-number c =
    let inv = c.loop-byte.invariant in
    let byte = get_or c.args.text.now c.loop-byte.byte-index 0 in
    let digit : digit_value byte < 10 = c.if-not-is_ascii_digit.ensures.bound in
    let off = digit_value_digit byte c.if-not-is_ascii_digit.ensures.cases in
    omega (arith, inv.value, off, c.from.ensures, value_short c.args.text.now c.loop-byte.byte-index inv.all (omega (arith, c.if-text-gt-FEW.false)))

pub loop-byte-preserved : goal.loop-byte-preserved
loop-byte-preserved c =
    let text = c.args.text.now in
    let i = c.loop-byte.byte-index in
    let inv = c.loop-byte.invariant in
    let digit : digit_value (get_or text i 0) < 10 = c.if-not-is_ascii_digit.ensures.bound in
    let off = digit_value_digit (get_or text i 0) c.if-not-is_ascii_digit.ensures.cases in
    let next = digits_value_more 10 text i c.loop-byte-test.true in
    record {
      all = digits_more 10 text i c.loop-byte-test.true inv.all digit;
      value = omega (arith, next, inv.value, off, c.from.ensures);
    }

pub returns : goal.returns
returns c =
    let text = c.args.text.now in
    let inv = c.loop-byte.invariant in
    let whole : take c.loop-byte.byte-index text ≡ text = take_all c.loop-byte.byte-index text (omega (arith, c.loop-byte-test.false)) in
    record {
      numeral = numeral_from_digits text (grind (arith, c.if-is_empty.false)) (subst (AllDigits 10) whole inv.all);
      value = ap (digits_value 10) (sym whole) ∙ sym inv.value;
    }
