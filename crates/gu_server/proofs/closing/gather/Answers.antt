use Rattle.gu_server.proofs.DayReceiptLemmas.{one_seat_more}
use Rattle.gu_server.proofs.closing.gather.Goals as goal

pub returns : goal.returns
returns g c before ends =
    rw (c.in_ok-push.ensures.items, c.in_ok-add.ensures, c.into_parts-seat.ensures.seat)
    (one_seat_more _ _ _ before _ _ ends c.into_parts-seat.ensures.receipts)
