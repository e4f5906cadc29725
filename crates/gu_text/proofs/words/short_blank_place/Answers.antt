use Rattle.std.proofs.Common.{ap, arith}
use Rattle.gu_text.specs.Words.{is_blank}
use Rattle.gu_text.proofs.FirstBytes.{first_place, no_place}
use Rattle.gu_text.proofs.words.short_blank_place.Goals as goal

pub returns-then-text-place-eq32 : goal.returns-then-text-place-eq32
returns-then-text-place-eq32 c =
    first_place is_blank c.args.text.now c.loop-place.place c.loop-place.invariant c.loop-place-test.true (ap is_blank c.if-text-place-eq32.true)

pub returns : goal.returns
returns c = no_place is_blank c.args.text.now (λ k within. c.loop-place.invariant k (omega (arith, within, c.loop-place-test.false)))
