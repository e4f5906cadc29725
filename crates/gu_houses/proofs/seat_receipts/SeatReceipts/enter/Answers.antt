use Rattle.std.proofs.Common.{length}
use Rattle.gu_desk.specs.KeptReceipts.{receipts_in}
use Rattle.gu_houses.proofs.ReceiptLemmas.{one_more, receipts_refused}
use Rattle.gu_houses.proofs.seat_receipts.SeatReceipts.enter.Goals as goal

pub invariant_of-self-2 : goal.invariant_of-self-2
invariant_of-self-2 g c =
    rw (c.push_reserved.ensures, c.reserve.ensures.same, c.receipt_of.ensures)
    (one_more _ _ _ _ _ _ c.self.invariant c.in_ok-entered.ensures.entered c.in_ok-entered.ensures.later)

pub invariant_of-self-in_err-entered : goal.invariant_of-self-in_err-entered
invariant_of-self-in_err-entered g c =
    rw c.reserve.ensures.same
    (receipts_refused g.E.EntryLedger.reference (length g.E.EntryLedger.opening) c.self.inside.seat c.enter.new.seat (receipts_in c.self.inside.receipts) c.self.invariant
    c.in_err-entered.field-0.0 c.in_err-entered.ensures.refused)
