use Rattle.gu_flow.proofs.Words.{◌≤◌, sum, value_of, IsPreflow}
use Rattle.gu_flow.proofs.preflow.give_back.Given as goal

abbrev pub invariant-turns : goal.invariant-turns
invariant-turns l = record {
  preflow : IsPreflow l.net.arcs.items l.flow l.excess;
  value : value_of l.net.arcs.items l.initial.flow ≤ value_of l.net.arcs.items l.flow;
}

abbrev pub decreases-turns : goal.decreases-turns
decreases-turns l = sum l.flow
