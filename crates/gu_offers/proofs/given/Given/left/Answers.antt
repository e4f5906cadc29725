use Rattle.std.proofs.Common.{rules}
use Rattle.gu_offers.proofs.given.Given.left.Goals as goal

pub returns : goal.returns
returns c = search rules
