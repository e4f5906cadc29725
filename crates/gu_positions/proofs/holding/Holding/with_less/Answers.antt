use Rattle.std.proofs.Common.{rules}
use Rattle.gu_positions.proofs.holding.Holding.with_less.Goals as goal

pub returns-in-Buy : goal.returns-in-Buy
returns-in-Buy c = search rules
