use Rattle.gu_terms.specs.Histories.{lots_swept}
use Rattle.gu_program.proofs.serving.serve.Given as goal

abbrev pub ghosts-serve_day-E-Ledger : goal.ghosts-serve_day-E-Ledger
ghosts-serve_day-E-Ledger g a = record { name = a.opening.entries.name; parts = a.opening.entries.parts }

abbrev pub ghosts-serve_day-E-EntryLedger : goal.ghosts-serve_day-E-EntryLedger
ghosts-serve_day-E-EntryLedger g a = record { reference = a.opening.book.reference; opening = a.opening.book.history; history = a.opening.annals.name }

abbrev pub ghosts-serve_day-S-Ledger : goal.ghosts-serve_day-S-Ledger
ghosts-serve_day-S-Ledger g a = record { name = a.opening.swept.name; parts = a.opening.swept.parts }

abbrev pub ghosts-serve_day-S-LotLedger : goal.ghosts-serve_day-S-LotLedger
ghosts-serve_day-S-LotLedger g a = record { opening = lots_swept a.opening.book.history }
