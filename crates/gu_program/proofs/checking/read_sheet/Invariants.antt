use Rattle.std.proofs.Common.{◌+◌, ◌*◌, ◌≤◌}
use Rattle.gu_streams.specs.Reads.{bytes_left, reads_left}
use Rattle.gu_program.proofs.Checkings.{Reading}
use Rattle.gu_program.proofs.checking.read_sheet.Given as goal

abbrev pub invariant-reading : goal.invariant-reading
invariant-reading g l = record {
  so_far : Reading l.reading (bytes_left g.R.Read.remaining l.initial.reads) (bytes_left g.R.Read.remaining l.reads);
  room : (l.reading).count + 4096 * reads_left l.reads ≤ 4096 * reads_left l.initial.reads;
}

abbrev pub decreases-reading : goal.decreases-reading
decreases-reading g l = reads_left l.reads
