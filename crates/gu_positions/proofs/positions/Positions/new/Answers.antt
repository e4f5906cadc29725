use Rattle.gu_positions.proofs.KeptLots.{kept-empty}
use Rattle.gu_positions.proofs.positions.Positions.new.Goals as goal

pub invariant_of-result : goal.invariant_of-result
invariant_of-result c = kept-empty _ c.new.ensures.empty c.new-2.ensures.empty
