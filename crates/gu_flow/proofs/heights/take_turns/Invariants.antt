use Rattle.gu_flow.proofs.Words.{◌≤◌, length, vec_len, value_of, IsSurge}
use Rattle.gu_flow.proofs.heights.take_turns.Given as goal

abbrev pub invariant-turns : goal.invariant-turns
invariant-turns l = record {
  surge : IsSurge l.net.arcs.items (length l.net.first.items) l.flow l.excess l.heights l.current (vec_len l.waiting.ring);
  value : value_of l.net.arcs.items l.initial.flow ≤ value_of l.net.arcs.items l.flow;
}
