use Rattle.gu_flow.specs.Searches.{level_at}
use Rattle.gu_flow.proofs.Descents.{Tracing}
use Rattle.gu_flow.proofs.ways.trace.Given as goal

abbrev pub invariant-loop-node : goal.invariant-loop-node
invariant-loop-node l = Tracing l.net.arcs.items l.flow l.marks l.way l.steps l.node

abbrev pub decreases-loop-node : goal.decreases-loop-node
decreases-loop-node l = level_at l.marks l.node
