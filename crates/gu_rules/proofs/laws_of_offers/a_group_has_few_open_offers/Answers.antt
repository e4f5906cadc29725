use Rattle.gu_rules.proofs.LegalOrder.{legal_ordered}
use Rattle.gu_rules.proofs.laws_of_offers.a_group_has_few_open_offers.Goals as goal

pub returns : goal.returns
returns c reference history group legal = (legal_ordered reference history legal).shown.few group
