use Rattle.std.specs.Io.KnownBytes.{Consumes}
use Rattle.gu_streams.specs.Reads.{bytes_left, reads_left}
use Rattle.gu_program.proofs.files.all_of.Given as goal

-- what was read is what was put together
abbrev pub invariant-reading : goal.invariant-reading
invariant-reading g l = Consumes (bytes_left g.R.Read.remaining l.initial.reads) (bytes_left g.R.Read.remaining l.reads) l.all.items

abbrev pub decreases-reading : goal.decreases-reading
decreases-reading g l = reads_left l.reads
