use Rattle.std.proofs.Common.{rules}
use Rattle.gu_positions.proofs.holding.Holding.excess.Goals as goal

pub returns : goal.returns
returns c = search rules
