use Rattle.std.proofs.Common.{subst, sym}
use Rattle.gu_fix.specs.Stream.{IsOpen}
use Rattle.gu_fix.proofs.Scanning.{open_at_end}
use Rattle.gu_fix.proofs.feed.Feed.new.Goals as goal

pub invariant_of-result : goal.invariant_of-result
invariant_of-result c = subst IsOpen (sym c.new.ensures) open_at_end
