use Rattle.gu_flow.proofs.Words.{◌≤◌, length, slice_index, vec_len, value_of, IsSurge}
use Rattle.gu_flow.proofs.heights.push_down.Given as goal

abbrev pub invariant-ends : goal.invariant-ends
invariant-ends l = record {
  surge : IsSurge l.net.arcs.items (length l.net.first.items) l.flow l.excess l.heights l.current (vec_len l.waiting.ring);
  value : value_of l.net.arcs.items l.initial.flow ≤ value_of l.net.arcs.items l.flow;
}

abbrev pub decreases-ends : goal.decreases-ends
decreases-ends l = slice_index l.current l.node
