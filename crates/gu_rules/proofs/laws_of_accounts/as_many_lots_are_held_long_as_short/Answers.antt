use Rattle.gu_rules.proofs.LegalLaws.{long_as_short}
use Rattle.gu_rules.proofs.laws_of_accounts.as_many_lots_are_held_long_as_short.Goals as goal

pub returns : goal.returns
returns c = long_as_short
