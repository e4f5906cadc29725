use Rattle.gu_terms.specs.Histories.{lots_swept}
use Rattle.desk_tests.proofs.days.the_receipts_of_a_day_are_its_entries.Given as goal

abbrev pub ghosts-whole_day-E-Ledger : goal.ghosts-whole_day-E-Ledger
ghosts-whole_day-E-Ledger g a = record { name = a.entries.name; parts = a.entries.parts }

abbrev pub ghosts-whole_day-E-EntryLedger : goal.ghosts-whole_day-E-EntryLedger
ghosts-whole_day-E-EntryLedger g a = record { reference = a.book.reference; opening = a.book.history; history = a.annals.name }

abbrev pub ghosts-whole_day-S-Ledger : goal.ghosts-whole_day-S-Ledger
ghosts-whole_day-S-Ledger g a = record { name = a.swept.name; parts = a.swept.parts }

abbrev pub ghosts-whole_day-S-LotLedger : goal.ghosts-whole_day-S-LotLedger
ghosts-whole_day-S-LotLedger g a = record { opening = lots_swept a.book.history }
