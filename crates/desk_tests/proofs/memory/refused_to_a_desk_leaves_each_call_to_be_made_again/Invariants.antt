use Rattle.gu_terms.specs.Histories.{lots_swept}
use Rattle.desk_tests.proofs.memory.refused_to_a_desk_leaves_each_call_to_be_made_again.Given as goal

abbrev pub ghosts-open_and_use-E-Ledger : goal.ghosts-open_and_use-E-Ledger
ghosts-open_and_use-E-Ledger g a = record { name = a.entries.name; parts = a.entries.parts }

abbrev pub ghosts-open_and_use-E-EntryLedger : goal.ghosts-open_and_use-E-EntryLedger
ghosts-open_and_use-E-EntryLedger g a = record { reference = a.book.reference; opening = a.book.history; history = a.annals.name }

abbrev pub ghosts-open_and_use-S-Ledger : goal.ghosts-open_and_use-S-Ledger
ghosts-open_and_use-S-Ledger g a = record { name = a.swept.name; parts = a.swept.parts }

abbrev pub ghosts-open_and_use-S-LotLedger : goal.ghosts-open_and_use-S-LotLedger
ghosts-open_and_use-S-LotLedger g a = record { opening = lots_swept a.book.history }
