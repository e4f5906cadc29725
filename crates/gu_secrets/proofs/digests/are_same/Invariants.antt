use Rattle.std.proofs.Common.{◌≡◌, ◌↔◌}
use Rattle.gu_secrets.proofs.Differences.{AreSameBelow}
use Rattle.gu_secrets.proofs.digests.are_same.Given as goal

-- if there is no difference so far, the bytes so far are the same
abbrev pub invariant-loop-place : goal.invariant-loop-place
invariant-loop-place l = (l.differences ≡ 0) ↔ AreSameBelow l.place l.left l.right
