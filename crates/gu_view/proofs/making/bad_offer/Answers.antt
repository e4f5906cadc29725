use Rattle.std.proofs.Common.{arith, ◌∙◌, length-take}
use Rattle.gu_view.proofs.MakingLemmas.{bad_of_few}
use Rattle.gu_view.proofs.making.bad_offer.Goals as goal

pub returns-then-offers-le-MOST_OPEN_OFFERS : goal.returns-then-offers-le-MOST_OPEN_OFFERS
returns-then-offers-le-MOST_OPEN_OFFERS c = c.first_bad.ensures ∙ bad_of_few c.args.offers.now c.if-offers-le-MOST_OPEN_OFFERS.true

pub slice_bounds-first_bad-end : goal.slice_bounds-first_bad-end
slice_bounds-first_bad-end c = omega (arith, length-take 4096 c.args.offers.now)
