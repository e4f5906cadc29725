use Rattle.gu_terms.specs.Histories.{lots_swept}
use Rattle.console_tests.proofs.transcript.heard_of.Given as goal

abbrev pub ghosts-play-E-Ledger : goal.ghosts-play-E-Ledger
ghosts-play-E-Ledger g a = record { name = a.entries.name; parts = a.entries.parts }

abbrev pub ghosts-play-E-EntryLedger : goal.ghosts-play-E-EntryLedger
ghosts-play-E-EntryLedger g a = record { reference = a.book.reference; opening = a.book.history; history = a.annals.name }

abbrev pub ghosts-play-S-Ledger : goal.ghosts-play-S-Ledger
ghosts-play-S-Ledger g a = record { name = a.swept.name; parts = a.swept.parts }

abbrev pub ghosts-play-S-LotLedger : goal.ghosts-play-S-LotLedger
ghosts-play-S-LotLedger g a = record { opening = lots_swept a.book.history }
