use Rattle.std.proofs.Common.{◌≡◌, ◌-◌, ◌≤◌, ◌++◌, drop, take}
use Rattle.gu_desk.proofs.copying.copy_entries.Given as goal

abbrev pub invariant-loop-at : goal.invariant-loop-at
invariant-loop-at l = record {
  place : l.place ≡ l.at;
  low : l.initial.place ≤ l.at;
  copied : l.entries.items ≡ l.initial.entries.items ++ take (l.at - l.initial.place) (drop l.initial.place l.history);
}
