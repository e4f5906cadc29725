use Rattle.gu_terms.specs.Histories.{lots_swept}
use Rattle.keeping_tests.proofs.memory.refused_to_a_keeper_leaves_the_batch_to_be_kept_again.Given as goal

abbrev pub ghosts-open_and_keep-E-Ledger : goal.ghosts-open_and_keep-E-Ledger
ghosts-open_and_keep-E-Ledger g a = record { name = a.entries.name; parts = a.entries.parts }

abbrev pub ghosts-open_and_keep-E-EntryLedger : goal.ghosts-open_and_keep-E-EntryLedger
ghosts-open_and_keep-E-EntryLedger g a = record { reference = a.book.reference; opening = a.book.history; history = a.annals.name }

abbrev pub ghosts-open_and_keep-S-Ledger : goal.ghosts-open_and_keep-S-Ledger
ghosts-open_and_keep-S-Ledger g a = record { name = a.swept.name; parts = a.swept.parts }

abbrev pub ghosts-open_and_keep-S-LotLedger : goal.ghosts-open_and_keep-S-LotLedger
ghosts-open_and_keep-S-LotLedger g a = record { opening = lots_swept a.book.history }
