use Rattle.gu_script.proofs.JournalLaws.{journal_says}
use Rattle.gu_script.proofs.laws.a_journal_says_its_entries.Goals as goal

pub returns : goal.returns
returns c = journal_says
