use Rattle.std.proofs.Common.{◌≡◌, ◌≤◌, ◌-◌, length, take}
use Rattle.std.specs.Io.KnownBytes.{Appends}
use Rattle.gu_engine.proofs.gate.write_some.Given as goal

abbrev pub invariant-parts : goal.invariant-parts
invariant-parts g l = record {
  within : l.at ≤ length l.text;
  appended : Appends (g.W.Write.contents l.initial.writer) (g.W.Write.contents l.writer) (take l.at l.text);
  unasked : length l.text ≡ 0 → l.writer ≡ l.initial.writer;
}

abbrev pub decreases-parts : goal.decreases-parts
decreases-parts g l = length l.text - l.at
