use Rattle.gu_terms.specs.Histories.{lots_swept}
use Rattle.server_tests.proofs.served.served_from.Given as goal

abbrev pub ghosts-day-E-Ledger : goal.ghosts-day-E-Ledger
ghosts-day-E-Ledger g a = record { name = a.opening.entries.name; parts = a.opening.entries.parts }

abbrev pub ghosts-day-E-EntryLedger : goal.ghosts-day-E-EntryLedger
ghosts-day-E-EntryLedger g a = record { reference = a.opening.book.reference; opening = a.opening.book.history; history = a.opening.annals.name }

abbrev pub ghosts-day-S-Ledger : goal.ghosts-day-S-Ledger
ghosts-day-S-Ledger g a = record { name = a.opening.swept.name; parts = a.opening.swept.parts }

abbrev pub ghosts-day-S-LotLedger : goal.ghosts-day-S-LotLedger
ghosts-day-S-LotLedger g a = record { opening = lots_swept a.opening.book.history }
