use Rattle.std.proofs.Common.{◌≡◌, take}
use Rattle.gu_terms.proofs.cut.set_of_offers.Given as goal

abbrev pub invariant-loop-offer : goal.invariant-loop-offer
invariant-loop-offer l = l.set.keys ≡ take l.offer-index l.offers
