use Rattle.gu_rules.proofs.LegalOrder.{legal_ordered}
use Rattle.gu_rules.proofs.laws_of_offers.no_more_is_given_up_than_was_traded.Goals as goal

pub returns : goal.returns
returns c reference history legal = (legal_ordered reference history legal).order.covered
