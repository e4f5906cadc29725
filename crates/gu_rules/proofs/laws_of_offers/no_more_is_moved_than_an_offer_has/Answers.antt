use Rattle.gu_rules.proofs.LegalOrder.{legal_ordered}
use Rattle.gu_rules.proofs.laws_of_offers.no_more_is_moved_than_an_offer_has.Goals as goal

pub returns : goal.returns
returns c reference history legal = (legal_ordered reference history legal).order.within
