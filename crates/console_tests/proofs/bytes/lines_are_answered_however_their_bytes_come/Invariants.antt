use Rattle.gu_terms.specs.Histories.{lots_swept}
use Rattle.console_tests.proofs.bytes.lines_are_answered_however_their_bytes_come.Given as goal

abbrev pub ghosts-serve_rows-E-Ledger : goal.ghosts-serve_rows-E-Ledger
ghosts-serve_rows-E-Ledger g a = record { name = a.entries.name; parts = a.entries.parts }

abbrev pub ghosts-serve_rows-E-EntryLedger : goal.ghosts-serve_rows-E-EntryLedger
ghosts-serve_rows-E-EntryLedger g a = record { reference = a.book.reference; opening = a.book.history; history = a.annals.name }

abbrev pub ghosts-serve_rows-S-Ledger : goal.ghosts-serve_rows-S-Ledger
ghosts-serve_rows-S-Ledger g a = record { name = a.swept.name; parts = a.swept.parts }

abbrev pub ghosts-serve_rows-S-LotLedger : goal.ghosts-serve_rows-S-LotLedger
ghosts-serve_rows-S-LotLedger g a = record { opening = lots_swept a.book.history }
