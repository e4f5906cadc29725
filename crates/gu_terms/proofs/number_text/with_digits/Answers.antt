use Rattle.std.proofs.Common.{◌<◌, ◌+◌, ◌-◌, length, get_or, arith}
use Rattle.std.proofs.lemmas.Int.Digits.{digits_more}
use Rattle.std.proofs.lemmas.Str.{digit_value_digit}
use Rattle.std.specs.Char.{digit_value}
use Rattle.gu_terms.proofs.NumberLemmas.{after-more, powers_of_ten, room_for_digit}
use Rattle.gu_terms.proofs.number_text.with_digits.Goals as goal

pub overflow_mul-longer : goal.overflow_mul-longer
overflow_mul-longer c =
    let most = powers_of_ten (12 - length c.args.text.now + c.loop-place.place) 12 (omega (arith, c.requires.0)) in
    omega (arith, c.loop-place.invariant.few, most)

pub overflow_add-longer : goal.overflow_add-longer
overflow_add-longer c =
    let most = powers_of_ten (12 - length c.args.text.now + c.loop-place.place) 12 (omega (arith, c.requires.0)) in
    let byte = get_or c.args.text.now c.loop-place.place 0 in
    let digit : digit_value byte < 10 = c.if-not-is_ascii_digit.ensures.bound in
    let off = digit_value_digit byte c.if-not-is_ascii_digit.ensures.cases in
    omega (arith, off, c.from.ensures, c.loop-place.invariant.few, most)

pub loop-place-preserved : goal.loop-place-preserved
loop-place-preserved c =
    let text = c.args.text.now in
    let i = c.loop-place.place in
    let inv = c.loop-place.invariant in
    let digit : digit_value (get_or text i 0) < 10 = c.if-not-is_ascii_digit.ensures.bound in
    let off = digit_value_digit (get_or text i 0) c.if-not-is_ascii_digit.ensures.cases in
    let next = after-more c.args.number text i c.loop-place-test.true in
    let room = room_for_digit c.loop-place.longer (digit_value (get_or text i 0)) (12 - length text + i) (12 - length text + (i + 1)) (omega arith) inv.few digit in
    record {
      all = digits_more 10 text i c.loop-place-test.true inv.all digit;
      value = omega (arith, next, inv.value, off, c.from.ensures);
      few = omega (arith, room, off, c.from.ensures);
    }
