use Rattle.gu_desk.proofs.Words.{◌≡◌, ◌++◌, List, length, take, Receipt, AreMarks}
use Rattle.gu_desk.proofs.auditing.mark_kept.Given as goal

abbrev pub invariant-loop-place : goal.invariant-loop-place
invariant-loop-place l = record {
  sized : length l.with_receipt.items ≡ length l.history;
  marks : (seen : List Receipt) → AreMarks l.history seen l.initial.with_receipt.items → AreMarks l.history (seen ++ take l.place l.receipts.earlier) l.with_receipt.items;
}
