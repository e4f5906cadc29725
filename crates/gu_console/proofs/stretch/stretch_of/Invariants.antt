use Rattle.std.proofs.Common.{◌≡◌, ◌≤◌, ◌⊎◌, length, take}
use Rattle.gu_console.specs.Shown.{day_after, lines_after}
use Rattle.gu_console.proofs.stretch.stretch_of.Given as goal

abbrev pub invariant-loop-place : goal.invariant-loop-place
invariant-loop-place l = record {
  text_is : l.text.items ≡ lines_after l.fn.today (take l.place l.entries);
  day_is : l.day ≡ day_after l.fn.today (take l.place l.entries);
  short : (length l.text.items ≤ 65536) ⊎ (l.place ≡ 1);
}
