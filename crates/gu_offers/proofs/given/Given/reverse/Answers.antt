use Rattle.std.proofs.Common.{rules}
use Rattle.gu_offers.proofs.given.Given.reverse.Goals as goal

pub returns-clause-row : goal.returns-clause-row
returns-clause-row c = search rules
