use Rattle.std.proofs.Common.{◌≤◌, ◌<◌, ◌-◌, ◌+◌, ◌*◌, drop, length}
use Rattle.std.specs.Vec.{vec_len, vec_capacity}
use Rattle.gu_fix.specs.Spans.{AreWithin, fields_in}
use Rattle.gu_fix.proofs.PartsRead.{ReadsOn, EndsWithSoh}
use Rattle.gu_fix.proofs.splitting.spans_of.Given as goal

abbrev pub invariant-parts : goal.invariant-parts
invariant-parts l = record {
  reads_on : ReadsOn l.bytes (drop l.start l.bytes) (fields_in l.bytes l.spans.items) l.fault;
  within : AreWithin l.bytes l.spans.items;
  ends : EndsWithSoh (drop l.start l.bytes);
  short : l.start ≤ length l.bytes;
  few : 4 * vec_len l.spans ≤ l.start;
  room : length l.bytes < 4 * vec_capacity l.spans + 4;
}

abbrev pub decreases-parts : goal.decreases-parts
decreases-parts l = length l.bytes - l.start
