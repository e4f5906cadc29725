use Rattle.std.proofs.Common.{rules}
use Rattle.gu_trades.proofs.sides.Sides.conflicts_with.Goals as goal

pub returns-in-Both : goal.returns-in-Both
returns-in-Both c = search rules
