use Rattle.std.proofs.Common.{◌*◌, ◌≤◌, length}
use Rattle.gu_flow.proofs.heights.lift.Given as goal

abbrev pub invariant-ends : goal.invariant-ends
invariant-ends l = l.ends ≤ 2 * length l.net.arcs.items

abbrev pub decreases-ends : goal.decreases-ends
decreases-ends l = l.ends
