use Rattle.std.proofs.Common.{◌≡◌, ◌++◌, take, drop}
use Rattle.gu_fix.specs.Sums.{running_sums, sum_after}
use Rattle.gu_fix.proofs.window.sum_up.Given as goal

abbrev pub invariant-loop-place : goal.invariant-loop-place
invariant-loop-place l = record {
  total : l.total ≡ sum_after l.base (take l.place l.initial.bytes);
  bytes : l.bytes ≡ running_sums l.base (take l.place l.initial.bytes) ++ drop l.place l.initial.bytes;
}
