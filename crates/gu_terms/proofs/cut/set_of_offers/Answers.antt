use Rattle.std.proofs.Common.{ap, ◌∙◌}
use Rattle.indexmap.specs.IndexSet.{insert_key}
use Rattle.gu_terms.proofs.CutLemmas.{insert_next}
use Rattle.gu_terms.specs.contracts.offer_no.OfferNoEq.TheImpl.Laws as laws
use Rattle.gu_terms.specs.contracts.offer_no.OfferNoPartialEq.TheImpl as test
use Rattle.gu_terms.proofs.cut.set_of_offers.Goals as goal

pub loop-offer-preserved : goal.loop-offer-preserved
loop-offer-preserved c =
    c.in_ok-insert_full.ensures.keys
    ∙ ap (λ offers. insert_key test.eq-value.it offers c.offer-item.result) c.loop-offer.invariant
    ∙ insert_next laws.laws-law c.args.offers.now c.loop-offer.offer-index c.offer-item.result c.loop-offer-test.true c.offer-item.is c.requires
