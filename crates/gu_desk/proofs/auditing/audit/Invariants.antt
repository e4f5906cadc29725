use Rattle.gu_desk.proofs.Words.{take, AreMarks}
use Rattle.gu_desk.proofs.auditing.audit.Given as goal

abbrev pub invariant-loop-receipt : goal.invariant-loop-receipt
invariant-loop-receipt l = AreMarks l.history (take l.receipt-index l.receipts) l.with_receipt.items
