use Rattle.gu_server.proofs.DayReceiptLemmas.{added}
use Rattle.gu_server.proofs.closing.close.Goals as goal

pub returns-in-Ok-clause-receipts : goal.returns-in-Ok-clause-receipts
returns-in-Ok-clause-receipts g c = rw (← c.into_parts-seats.ensures.receipts)
    (added _ _ _ _ _ c.in_ok-seats.ensures c.in-Ok.ensures.opening c.in-Ok.ensures.seen c.in-Ok.ensures.entries)
