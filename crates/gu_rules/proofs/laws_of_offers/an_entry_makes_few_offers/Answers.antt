use Rattle.gu_rules.proofs.LegalLaws.{few_offers_made}
use Rattle.gu_rules.proofs.laws_of_offers.an_entry_makes_few_offers.Goals as goal

pub returns : goal.returns
returns c = few_offers_made
