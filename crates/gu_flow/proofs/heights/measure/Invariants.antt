use Rattle.std.proofs.Common.{ℕ, ◌-◌, ◌<◌, ◌≤◌, length, slice_index}
use Rattle.gu_flow.proofs.heights.measure.Given as goal

abbrev pub invariant-nodes : goal.invariant-nodes
invariant-nodes l = record {
  done : l.done ≤ length l.queue;
  found : l.found ≤ length l.queue;
  nodes : (k : ℕ) → k < l.found → slice_index l.queue k < length l.heights;
}

abbrev pub decreases-nodes : goal.decreases-nodes
decreases-nodes l = length l.queue - l.done
