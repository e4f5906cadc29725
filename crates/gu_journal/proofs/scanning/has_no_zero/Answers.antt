use Rattle.gu_journal.proofs.Scans.{no_zero_if, only_if_no_zero}
use Rattle.gu_journal.proofs.scanning.has_no_zero.Goals as goal

pub returns : goal.returns
returns c = (no_zero_if c.args.bytes.now _ c.zero_at.ensures.before, only_if_no_zero c.args.bytes.now _ c.zero_at.ensures.within c.zero_at.ensures.before)
