use Rattle.gu_houses.proofs.ReceiptLemmas.{last_entered}
use Rattle.gu_houses.proofs.seat_receipts.SeatReceipts.last.Goals as goal

pub returns : goal.returns
returns g c = rw (← c.self.view_is) (last_entered _ _ _ _ c.last.ensures.last c.self.invariant)
