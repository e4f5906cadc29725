use Rattle.gu_keeping.proofs.DayLaws.{a_batch_says_its_entries as says}
use Rattle.gu_keeping.proofs.laws.a_batch_says_its_entries.Goals as goal

pub returns : goal.returns
returns c = says
