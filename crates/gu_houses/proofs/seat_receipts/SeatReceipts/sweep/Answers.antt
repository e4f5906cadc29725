use Rattle.gu_houses.proofs.ReceiptLemmas.{one_more}
use Rattle.gu_houses.proofs.seat_receipts.SeatReceipts.sweep.Goals as goal

pub invariant_of-self-2 : goal.invariant_of-self-2
invariant_of-self-2 g c =
    rw (c.push_reserved.ensures, c.reserve.ensures.same)
    (one_more _ _ _ _ _ _ c.self.invariant c.in_ok-committed.ensures.entered c.in_ok-committed.ensures.later)
