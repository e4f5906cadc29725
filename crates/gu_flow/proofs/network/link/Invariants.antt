use Rattle.gu_flow.specs.Ends.{IsIndex}
use Rattle.gu_flow.proofs.network.link.Given as goal

abbrev pub invariant-loop-end : goal.invariant-loop-end
invariant-loop-end l = IsIndex l.arcs l.first l.links l.end
