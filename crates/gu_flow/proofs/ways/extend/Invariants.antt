use Rattle.gu_flow.proofs.Words.{◌+◌, ◌*◌, sum, level_at}
use Rattle.gu_flow.proofs.Descents.{Descending}
use Rattle.gu_flow.proofs.ways.extend.Given as goal

abbrev pub invariant-steps : goal.invariant-steps
invariant-steps l = Descending l.net.arcs.items l.flow l.marks l.current l.way l.steps l.node

abbrev pub decreases-steps : goal.decreases-steps
decreases-steps l = 2 * sum l.current + level_at l.marks l.node
