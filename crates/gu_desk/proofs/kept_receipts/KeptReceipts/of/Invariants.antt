use Rattle.gu_desk.proofs.Words.{◌≡◌, receipts_in}
use Rattle.gu_desk.proofs.kept_receipts.KeptReceipts.of.Given as goal

abbrev pub invariant-loop-receipt : goal.invariant-loop-receipt
invariant-loop-receipt l = receipts_in l.kept ≡ l.yielded
