use Rattle.std.proofs.Common.{arith}
use Rattle.gu_view.proofs.TakesLemmas.{filled_none, filled_more}
use Rattle.gu_view.proofs.takes.fill_lots.Goals as goal

pub loop-place-init : goal.loop-place-init
loop-place-init c = filled_none c.args.offers.now c.args.takes.now c.args.taken.now c.requires.takes

pub loop-place-preserved : goal.loop-place-preserved
loop-place-preserved c =
    rw (c.split_first-lots.ensures.lots, c.split_first-lots.ensures.rest, c.index-offers-place.is)
    (filled_more c.args.offers.now c.args.takes.now c.loop-place.place c.loop-place.taken c.loop-place.rest.now c.index-offers-place.result c.loop-place-test.true (omega (arith, c.loop-place.auto.taken, c.requires.size)) c.requires.offers c.loop-place.invariant)
