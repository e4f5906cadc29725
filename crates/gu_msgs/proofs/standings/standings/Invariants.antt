use Rattle.std.proofs.Common.{◌≡◌, length}
use Rattle.gu_msgs.proofs.StandingLemmas.{AreNoted}
use Rattle.gu_msgs.proofs.standings.standings.Given as goal

abbrev pub invariant-loop-field : goal.invariant-loop-field
invariant-loop-field l = record {
  noted : AreNoted l.rows l.fn.fields l.field-iterator l.seen l.numbers;
  long : length l.numbers ≡ 20;
}
