use Rattle.gu_flow.proofs.Words.{◌≡◌, ◌≢◌, ◌≤◌, ℕ, slice_index, sum, IsCurrent}
use Rattle.gu_flow.proofs.ways.next_down.Given as goal

abbrev pub invariant-ends : goal.invariant-ends
invariant-ends l = record {
  current : IsCurrent l.net.arcs.items l.current;
  others : (n : ℕ) → n ≢ l.node → slice_index l.current n ≡ slice_index l.initial.current n;
  less : sum l.current ≤ sum l.initial.current;
}

abbrev pub decreases-ends : goal.decreases-ends
decreases-ends l = slice_index l.current l.node
