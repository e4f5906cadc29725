use Rattle.gu_terms.specs.Histories.{lots_swept}
use Rattle.keeping_tests.proofs.batches.a_batch_has_each_entry_after_its_origin_and_a_digest_at_its_end.Given as goal

abbrev pub ghosts-kept_text-E-Ledger : goal.ghosts-kept_text-E-Ledger
ghosts-kept_text-E-Ledger g a = record { name = a.entries.name; parts = a.entries.parts }

abbrev pub ghosts-kept_text-E-EntryLedger : goal.ghosts-kept_text-E-EntryLedger
ghosts-kept_text-E-EntryLedger g a = record { reference = a.book.reference; opening = a.book.history; history = a.annals.name }

abbrev pub ghosts-kept_text-S-Ledger : goal.ghosts-kept_text-S-Ledger
ghosts-kept_text-S-Ledger g a = record { name = a.swept.name; parts = a.swept.parts }

abbrev pub ghosts-kept_text-S-LotLedger : goal.ghosts-kept_text-S-LotLedger
ghosts-kept_text-S-LotLedger g a = record { opening = lots_swept a.book.history }
