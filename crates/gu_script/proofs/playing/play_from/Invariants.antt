use Rattle.std.proofs.Common.{◌+◌, ◌*◌, ◌≤◌}
use Rattle.gu_streams.specs.Reads.{bytes_left, reads_left}
use Rattle.gu_script.proofs.ReplayRuns.{Playing}
use Rattle.gu_script.proofs.playing.play_from.Given as goal

abbrev pub invariant-reading : goal.invariant-reading
invariant-reading g l = record {
  playing : Playing ((l.initial.script).course) l.script (bytes_left g.R.Read.remaining l.initial.reads) (bytes_left g.R.Read.remaining l.reads) (g.W.Write.contents l.initial.writer) (g.W.Write.contents l.writer);
  room : (l.script).count + 4096 * reads_left l.reads ≤ 4096 * reads_left l.initial.reads;
}

abbrev pub decreases-reading : goal.decreases-reading
decreases-reading g l = reads_left l.reads
