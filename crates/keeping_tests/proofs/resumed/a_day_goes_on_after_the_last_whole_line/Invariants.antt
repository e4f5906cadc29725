use Rattle.gu_terms.specs.Histories.{lots_swept}
use Rattle.keeping_tests.proofs.resumed.a_day_goes_on_after_the_last_whole_line.Given as goal

abbrev pub ghosts-gone_on-E-Ledger : goal.ghosts-gone_on-E-Ledger
ghosts-gone_on-E-Ledger g a = record { name = a.entries.name; parts = a.entries.parts }

abbrev pub ghosts-gone_on-E-EntryLedger : goal.ghosts-gone_on-E-EntryLedger
ghosts-gone_on-E-EntryLedger g a = record { reference = a.book.reference; opening = a.book.history; history = a.annals.name }

abbrev pub ghosts-gone_on-S-Ledger : goal.ghosts-gone_on-S-Ledger
ghosts-gone_on-S-Ledger g a = record { name = a.swept.name; parts = a.swept.parts }

abbrev pub ghosts-gone_on-S-LotLedger : goal.ghosts-gone_on-S-LotLedger
ghosts-gone_on-S-LotLedger g a = record { opening = lots_swept a.book.history }
