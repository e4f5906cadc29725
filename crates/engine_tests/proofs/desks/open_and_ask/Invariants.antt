use Rattle.gu_terms.specs.Histories.{lots_swept}
use Rattle.engine_tests.proofs.desks.open_and_ask.Given as goal

abbrev pub ghosts-ask_from-E-Ledger : goal.ghosts-ask_from-E-Ledger
ghosts-ask_from-E-Ledger g a = record { name = a.entries.name; parts = a.entries.parts }

abbrev pub ghosts-ask_from-E-EntryLedger : goal.ghosts-ask_from-E-EntryLedger
ghosts-ask_from-E-EntryLedger g a = record { reference = a.book.reference; opening = a.book.history; history = a.annals.name }

abbrev pub ghosts-ask_from-S-Ledger : goal.ghosts-ask_from-S-Ledger
ghosts-ask_from-S-Ledger g a = record { name = a.swept.name; parts = a.swept.parts }

abbrev pub ghosts-ask_from-S-LotLedger : goal.ghosts-ask_from-S-LotLedger
ghosts-ask_from-S-LotLedger g a = record { opening = lots_swept a.book.history }
