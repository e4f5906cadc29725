use Rattle.gu_desk.proofs.Words.{take, flat_map, receipts_in, AreMarks}
use Rattle.gu_desk.proofs.auditing.audit_kept.Given as goal

abbrev pub invariant-loop-part : goal.invariant-loop-part
invariant-loop-part l = AreMarks l.history (flat_map receipts_in (take l.part-index l.parts)) l.with_receipt.items
