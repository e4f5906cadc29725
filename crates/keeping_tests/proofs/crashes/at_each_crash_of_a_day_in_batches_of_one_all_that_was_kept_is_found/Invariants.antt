use Rattle.gu_terms.specs.Histories.{lots_swept}
use Rattle.keeping_tests.proofs.crashes.at_each_crash_of_a_day_in_batches_of_one_all_that_was_kept_is_found.Given as goal

abbrev pub ghosts-kept_day-E-Ledger : goal.ghosts-kept_day-E-Ledger
ghosts-kept_day-E-Ledger g a = record { name = a.entries.name; parts = a.entries.parts }

abbrev pub ghosts-kept_day-E-EntryLedger : goal.ghosts-kept_day-E-EntryLedger
ghosts-kept_day-E-EntryLedger g a = record { reference = a.book.reference; opening = a.book.history; history = a.annals.name }

abbrev pub ghosts-kept_day-S-Ledger : goal.ghosts-kept_day-S-Ledger
ghosts-kept_day-S-Ledger g a = record { name = a.swept.name; parts = a.swept.parts }

abbrev pub ghosts-kept_day-S-LotLedger : goal.ghosts-kept_day-S-LotLedger
ghosts-kept_day-S-LotLedger g a = record { opening = lots_swept a.book.history }
