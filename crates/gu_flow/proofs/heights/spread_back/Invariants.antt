use Rattle.std.proofs.Common.{ℕ, ◌*◌, ◌<◌, ◌≤◌, length, slice_index}
use Rattle.gu_flow.proofs.heights.spread_back.Given as goal

abbrev pub invariant-ends : goal.invariant-ends
invariant-ends l = record {
  ends : l.ends ≤ 2 * length l.net.arcs.items;
  found : l.count ≤ length l.queue;
  nodes : (k : ℕ) → k < l.count → slice_index l.queue k < length l.heights;
}

abbrev pub decreases-ends : goal.decreases-ends
decreases-ends l = l.ends
