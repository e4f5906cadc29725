use Rattle.gu_rules.proofs.GivenTrades.{sourced}
use Rattle.gu_rules.proofs.LegalLaws.{has_path}
use Rattle.gu_rules.proofs.laws_of_offers.each_offer_gives_up_a_trade_by_an_agreement.Goals as goal

pub returns : goal.returns
returns c = record { given = λ reference history legal. (sourced reference history legal).offers; paths = has_path }
