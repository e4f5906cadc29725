use Rattle.gu_journal.proofs.Scans.{last_by_whole, whole_by_last}
use Rattle.gu_journal.proofs.scanning.ends_with_line.Goals as goal

pub returns-in-len1-up : goal.returns-in-len1-up
returns-in-len1-up c = (whole_by_last c.args.text.now c.in-len1-up.len_at_least, last_by_whole c.args.text.now c.in-len1-up.len_at_least)
