use Rattle.gu_positions.proofs.KeptLots.{both_sides-lookup}
use Rattle.gu_positions.proofs.positions.Positions.of.Goals as goal

pub returns-in-Some : goal.returns-in-Some
returns-in-Some c = both_sides-lookup c.self.inside c.args.self.now c.self.view_is c.args.account c.args.symbol _ c.in-Some.ensures.value

pub returns-in-None : goal.returns-in-None
returns-in-None c = both_sides-lookup c.self.inside c.args.self.now c.self.view_is c.args.account c.args.symbol _ c.in-None.ensures.value
