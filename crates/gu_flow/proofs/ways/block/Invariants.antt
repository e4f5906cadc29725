use Rattle.gu_flow.proofs.Words.{◌-◌, capacities, value_of}
use Rattle.gu_flow.proofs.Descents.{Blocking}
use Rattle.gu_flow.proofs.ways.block.Given as goal

abbrev pub invariant-ways : goal.invariant-ways
invariant-ways l = Blocking l.net.arcs.items l.fn.flow l.flow l.marks l.current l.way l.kept

abbrev pub decreases-ways : goal.decreases-ways
decreases-ways l = capacities l.net.arcs.items - value_of l.net.arcs.items l.flow
