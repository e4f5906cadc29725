use Rattle.std.proofs.Common.{◌≡◌}
use Rattle.gu_limits.proofs.KeptLimits.{unused_before}
use Rattle.gu_limits.proofs.table.forget_uses.Given as goal

abbrev pub invariant-loop-place : goal.invariant-loop-place
invariant-loop-place l = l.limits.entries ≡ unused_before l.place l.initial.limits.entries
