use Rattle.gu_flow.specs.Flows.{IsFlow}
use Rattle.gu_flow.proofs.beginning.begin.Given as goal

abbrev pub invariant-loop-offer : goal.invariant-loop-offer
invariant-loop-offer l = IsFlow l.net.arcs.items l.flow.items
