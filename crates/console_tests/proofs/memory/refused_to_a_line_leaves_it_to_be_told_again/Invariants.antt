use Rattle.gu_terms.specs.Histories.{lots_swept}
use Rattle.console_tests.proofs.memory.refused_to_a_line_leaves_it_to_be_told_again.Given as goal

abbrev pub ghosts-tell_at-E-Ledger : goal.ghosts-tell_at-E-Ledger
ghosts-tell_at-E-Ledger g a = record { name = a.entries.name; parts = a.entries.parts }

abbrev pub ghosts-tell_at-E-EntryLedger : goal.ghosts-tell_at-E-EntryLedger
ghosts-tell_at-E-EntryLedger g a = record { reference = a.book.reference; opening = a.book.history; history = a.annals.name }

abbrev pub ghosts-tell_at-S-Ledger : goal.ghosts-tell_at-S-Ledger
ghosts-tell_at-S-Ledger g a = record { name = a.swept.name; parts = a.swept.parts }

abbrev pub ghosts-tell_at-S-LotLedger : goal.ghosts-tell_at-S-LotLedger
ghosts-tell_at-S-LotLedger g a = record { opening = lots_swept a.book.history }
