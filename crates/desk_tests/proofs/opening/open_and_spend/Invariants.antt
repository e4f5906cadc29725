use Rattle.gu_terms.specs.Histories.{lots_swept}
use Rattle.desk_tests.proofs.opening.open_and_spend.Given as goal

abbrev pub ghosts-spend_from-E-Ledger : goal.ghosts-spend_from-E-Ledger
ghosts-spend_from-E-Ledger g a = record { name = a.entries.name; parts = a.entries.parts }

abbrev pub ghosts-spend_from-E-EntryLedger : goal.ghosts-spend_from-E-EntryLedger
ghosts-spend_from-E-EntryLedger g a = record { reference = a.book.reference; opening = a.book.history; history = a.annals.name }

abbrev pub ghosts-spend_from-S-Ledger : goal.ghosts-spend_from-S-Ledger
ghosts-spend_from-S-Ledger g a = record { name = a.swept.name; parts = a.swept.parts }

abbrev pub ghosts-spend_from-S-LotLedger : goal.ghosts-spend_from-S-LotLedger
ghosts-spend_from-S-LotLedger g a = record { opening = lots_swept a.book.history }
