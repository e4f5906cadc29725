use Rattle.gu_terms.specs.Histories.{lots_swept}
use Rattle.desk_tests.proofs.beside.lines_are_answered_while_a_sweep_is_proposed.Given as goal

abbrev pub ghosts-try_row-E-Ledger : goal.ghosts-try_row-E-Ledger
ghosts-try_row-E-Ledger g a = record { name = a.entries.name; parts = a.entries.parts }

abbrev pub ghosts-try_row-E-EntryLedger : goal.ghosts-try_row-E-EntryLedger
ghosts-try_row-E-EntryLedger g a = record { reference = a.book.reference; opening = a.book.history; history = a.annals.name }

abbrev pub ghosts-try_row-S-Ledger : goal.ghosts-try_row-S-Ledger
ghosts-try_row-S-Ledger g a = record { name = a.swept.name; parts = a.swept.parts }

abbrev pub ghosts-try_row-S-LotLedger : goal.ghosts-try_row-S-LotLedger
ghosts-try_row-S-LotLedger g a = record { opening = lots_swept a.book.history }
