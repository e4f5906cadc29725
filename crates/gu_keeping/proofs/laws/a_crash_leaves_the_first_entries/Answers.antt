use Rattle.gu_keeping.proofs.DayLaws.{a_crash_leaves_first_entries}
use Rattle.gu_keeping.proofs.laws.a_crash_leaves_the_first_entries.Goals as goal

pub returns : goal.returns
returns c = a_crash_leaves_first_entries
