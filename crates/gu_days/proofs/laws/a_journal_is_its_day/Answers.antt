use Rattle.gu_days.proofs.Words.{lines, journal_text}
use Rattle.gu_script.proofs.JournalLaws.{journal_says}
use Rattle.gu_days.proofs.laws.a_journal_is_its_day.Goals as goal

pub returns : goal.returns
returns c = λ reference history answers course legal writable h.
    c.what_says_a_day_plays_to_it.ensures reference history (lines (journal_text history)) answers course legal (journal_says history writable) h
