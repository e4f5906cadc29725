use Rattle.gu_rules.proofs.Charges.{stays_within}
use Rattle.gu_rules.proofs.laws_of_accounts.no_more_is_charged_than_a_limit_allows.Goals as goal

pub returns : goal.returns
returns c = stays_within
