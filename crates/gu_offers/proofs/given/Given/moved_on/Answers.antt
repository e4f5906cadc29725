use Rattle.std.proofs.Common.{rules}
use Rattle.gu_offers.proofs.given.Given.moved_on.Goals as goal

pub returns-then-self-day : goal.returns-then-self-day
returns-then-self-day c = search rules
