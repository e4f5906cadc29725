use Rattle.std.proofs.Common.{◌≡◌, ◌+◌, ◌*◌, ◌<◌, ◌≤◌, take, drop, get_or, refl, ap, subst, ◌∙◌, arith, inl, inr}
use Rattle.std.proofs.lemmas.List.{length-take-le, take_all}
use Rattle.std.proofs.lemmas.Int.Digits.{digits_value_more, digits_more}
use Rattle.std.proofs.lemmas.Str.{digit_value_digit}
use Rattle.std.specs.Str.Parse.{AllDigits, digits_value}
use Rattle.std.specs.Char.{digit_value}
use Rattle.gu_fix.specs.WholeMessage.{soh}
use Rattle.gu_fix.proofs.Digits.{value_small, no_digit_value}
use Rattle.gu_fix.proofs.Lengths.{split_at, apart_at_soh, apart_at_other, apart_at_end, open_with_four, length_from}
use Rattle.gu_fix.proofs.prefix.read_length.Goals as goal
use Rattle.gu_fix.proofs.prefix.read_length.Goals.{else-value-ge4-via-then-value-ge4+else-count-value-le-LONGEST, else-value-ge4-via-else-value-ge4, then-count-eq7-via-then-count-eq7, then-count-eq7-via-else-count-eq7+then-not-is_ascii_digit}

pub returns-then-count-value-le-LONGEST : goal.returns-then-count-value-le-LONGEST
returns-then-count-value-le-LONGEST c =
    let bytes = c.args.bytes.now in
    let i = c.loop-count.count in
    let inv = c.loop-count.invariant in (
      take i bytes,
      drop (i + 1) bytes,
      length-take-le i bytes (omega arith),
      length_from (take i bytes) c.loop-count.value inv.all inv.value (omega (arith, length-take-le i bytes (omega arith))) c.if-value-ge4.true (omega (arith, length-take-le i bytes (omega arith))),
      split_at bytes i soh c.loop-count-test.true c.if-byte-eq-SOH.true,
    )

pub returns-else-value-ge4 : goal.returns-else-value-ge4
returns-else-value-ge4 c =
    let inv = c.loop-count.invariant in
    apart_at_soh c.args.bytes.now c.loop-count.count c.loop-count.value c.loop-count-test.true c.if-byte-eq-SOH.true inv.all inv.value
    (elim c.else-value-ge4.branch [ else-value-ge4-via-then-value-ge4+else-count-value-le-LONGEST w ↦ λ four. omega arith | else-value-ge4-via-else-value-ge4 w ↦ λ four. omega arith ])

pub returns-then-count-eq7 : goal.returns-then-count-eq7
returns-then-count-eq7 c =
    let inv = c.loop-count.invariant in
    apart_at_other c.args.bytes.now c.loop-count.count _ c.loop-count-test.true refl c.if-byte-eq-SOH.false inv.all
    (elim c.then-count-eq7.branch [ then-count-eq7-via-then-count-eq7 w ↦ inl w.if-count-eq7.true | then-count-eq7-via-else-count-eq7+then-not-is_ascii_digit w ↦ inr (no_digit_value _ w.if-not-is_ascii_digit.ensures.cases) ])

pub loop-count-preserved : goal.loop-count-preserved
loop-count-preserved c =
    let bytes = c.args.bytes.now in
    let i = c.loop-count.count in
    let inv = c.loop-count.invariant in
    let digit : digit_value (get_or bytes i 0) < 10 = c.if-not-is_ascii_digit.ensures.bound in
    let off = digit_value_digit (get_or bytes i 0) c.if-not-is_ascii_digit.ensures.cases in
    let next = digits_value_more 10 bytes i c.loop-count-test.true in
    let all = digits_more 10 bytes i c.loop-count-test.true inv.all digit in
    let few : i + 1 ≤ 7 = omega (arith, inv.few, c.if-count-eq7.false) in
    let small = value_small (take (i + 1) bytes) all (omega (arith, length-take-le (i + 1) bytes (omega arith))) in
    let value : 10 * c.loop-count.value + c.from.result ≡ digits_value 10 (take (i + 1) bytes) = omega (arith, next, inv.value, off, c.from.ensures) in
    record { few = few; all = all; value = value; small = omega (arith, value, small) }

pub returns-then-bytes-lt7 : goal.returns-then-bytes-lt7
returns-then-bytes-lt7 c =
    let bytes = c.args.bytes.now in
    let inv = c.loop-count.invariant in
    let every : take c.loop-count.count bytes ≡ bytes = take_all _ bytes (omega arith) in
    let value = inv.value ∙ ap (digits_value 10) every in
    (_, _, open_with_four bytes (subst (AllDigits 10) every inv.all) c.if-bytes-lt7.true (omega (arith, value)))

pub returns-else-bytes-lt7 : goal.returns-else-bytes-lt7
returns-else-bytes-lt7 c =
    let bytes = c.args.bytes.now in
    let inv = c.loop-count.invariant in
    let every : take c.loop-count.count bytes ≡ bytes = take_all _ bytes (omega arith) in
    let value = inv.value ∙ ap (digits_value 10) every in
    apart_at_end bytes (subst (AllDigits 10) every inv.all) (inl (omega (arith, value), c.if-bytes-lt7.false))

pub returns-else-bytes-value-le-LONGEST : goal.returns-else-bytes-value-le-LONGEST
returns-else-bytes-value-le-LONGEST c =
    let bytes = c.args.bytes.now in
    let inv = c.loop-count.invariant in
    let every : take c.loop-count.count bytes ≡ bytes = take_all _ bytes (omega arith) in
    let value = inv.value ∙ ap (digits_value 10) every in
    apart_at_end bytes (subst (AllDigits 10) every inv.all) (inr (omega (arith, value), omega (arith, value)))
