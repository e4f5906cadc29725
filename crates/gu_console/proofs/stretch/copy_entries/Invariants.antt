use Rattle.std.proofs.Common.{◌≡◌, ◌-◌, ◌≤◌, ◌++◌, ◌⊎◌, drop, take}
use Rattle.gu_console.proofs.stretch.copy_entries.Given as goal

abbrev pub invariant-loop-place : goal.invariant-loop-place
invariant-loop-place l = record {
  copied : l.entries.items ≡ l.initial.entries.items ++ take (l.place - l.from) (drop l.from l.history);
  low : (l.place ≤ l.end) ⊎ (l.place ≡ l.from);
}
