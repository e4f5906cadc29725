use Rattle.std.proofs.Common.{◌<◌, take, get_or, arith, inl, inr}
use Rattle.std.proofs.lemmas.List.{length-take-le}
use Rattle.std.proofs.lemmas.Int.Digits.{digits_value_more, digits_more}
use Rattle.std.proofs.lemmas.Str.{digit_value_digit}
use Rattle.std.specs.Char.{digit_value}
use Rattle.gu_fix.proofs.Digits.{value_of_eight}
use Rattle.gu_fix.proofs.Parts.{no_tag_after, no_tag_in_digits}
use Rattle.gu_fix.proofs.splitting.number_in_front.Goals as goal

pub returns-then-count-eq9 : goal.returns-then-count-eq9
returns-then-count-eq9 c =
    no_tag_after c.args.part.now c.loop-count.count c.loop-count.invariant.all c.if-byte-eq61.false (inl c.if-count-eq9.true)

pub returns-then-not-is_ascii_digit : goal.returns-then-not-is_ascii_digit
returns-then-not-is_ascii_digit c =
    no_tag_after c.args.part.now c.loop-count.count c.loop-count.invariant.all c.if-byte-eq61.false (inr c.if-not-is_ascii_digit.ensures.cases)

pub overflow_mul-number : goal.overflow_mul-number
overflow_mul-number c =
    let i = c.loop-count.count in
    let small = value_of_eight (take i c.args.part.now) c.loop-count.invariant.all (omega (arith, length-take-le i c.args.part.now (omega arith))) in
    omega (arith, small, c.loop-count.invariant.value)

pub overflow_add-number : goal.overflow_add-number
overflow_add-number c =
    let i = c.loop-count.count in
    let part = c.args.part.now in
    let small = value_of_eight (take i part) c.loop-count.invariant.all (omega (arith, length-take-le i part (omega arith))) in
    let digit : digit_value (get_or part i 0) < 10 = c.if-not-is_ascii_digit.ensures.bound in
    let off = digit_value_digit (get_or part i 0) c.if-not-is_ascii_digit.ensures.cases in
    omega (arith, small, c.loop-count.invariant.value, off, c.from.ensures)

pub loop-count-preserved : goal.loop-count-preserved
loop-count-preserved c =
    let part = c.args.part.now in
    let i = c.loop-count.count in
    let inv = c.loop-count.invariant in
    let digit : digit_value (get_or part i 0) < 10 = c.if-not-is_ascii_digit.ensures.bound in
    let off = digit_value_digit (get_or part i 0) c.if-not-is_ascii_digit.ensures.cases in
    let next = digits_value_more 10 part i c.loop-count-test.true in
    record {
      all = digits_more 10 part i c.loop-count-test.true inv.all digit;
      value = omega (arith, next, inv.value, off, c.from.ensures);
      short = omega arith;
    }

pub returns : goal.returns
returns c = no_tag_in_digits c.args.part.now c.loop-count.count c.loop-count.invariant.all c.loop-count-test.false
