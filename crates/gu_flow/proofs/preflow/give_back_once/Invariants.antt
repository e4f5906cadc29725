use Rattle.gu_flow.proofs.Words.{◌≡◌, ◌<◌, ◌≤◌, true, false, sum, value_of, IsPreflow, AreSettled}
use Rattle.gu_flow.proofs.preflow.give_back_once.Given as goal

abbrev pub invariant-loop-place : goal.invariant-loop-place
invariant-loop-place l = record {
  preflow : IsPreflow l.net.arcs.items l.flow l.excess;
  value : value_of l.net.arcs.items l.initial.flow ≤ value_of l.net.arcs.items l.flow;
  no_more : sum l.flow ≤ sum l.initial.flow;
  less : l.any ≡ true → sum l.flow < sum l.initial.flow;
  settled : l.any ≡ false → AreSettled l.net.arcs.items l.flow l.excess l.place;
}
