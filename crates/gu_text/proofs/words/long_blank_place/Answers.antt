use Rattle.std.proofs.Common.{◌+◌, ◌-◌, length, arith}
use Rattle.gu_text.specs.Words.{is_blank}
use Rattle.gu_text.proofs.FirstBytes.{first_place, no_place, none_before}
use Rattle.gu_text.proofs.words.long_blank_place.Goals as goal

pub returns-then-run-lt8 : goal.returns-then-run-lt8
returns-then-run-lt8 c =
    let run = c.run_in_eight-run in
    first_place is_blank c.args.text.now (c.eights.place + run.result)
    (none_before is_blank c.args.text.now c.eights.place (c.eights.place + run.result) c.eights.invariant run.ensures.before)
    (omega (arith, c.eights-test.true, c.if-run-lt8.true))
    (run.ensures.stops c.if-run-lt8.true)

pub returns-then-run-lt8-2 : goal.returns-then-run-lt8-2
returns-then-run-lt8-2 c =
    let run = c.run_in_eight-run-2 in
    let last = length c.args.text.now - 8 in
    first_place is_blank c.args.text.now (last + run.result)
    (none_before is_blank c.args.text.now last (last + run.result) (λ k under. c.eights.invariant k (omega (arith, under, c.eights-test.false))) run.ensures.before)
    (omega (arith, c.requires, c.if-run-lt8-2.true))
    (run.ensures.stops c.if-run-lt8-2.true)

pub returns-else-run-lt8-2 : goal.returns-else-run-lt8-2
returns-else-run-lt8-2 c =
    let run = c.run_in_eight-run-2 in
    let last = length c.args.text.now - 8 in
    no_place is_blank c.args.text.now (λ k within.
    none_before is_blank c.args.text.now last (last + run.result) (λ k under. c.eights.invariant k (omega (arith, under, c.eights-test.false))) run.ensures.before
    k (omega (arith, within, c.if-run-lt8-2.false)))
