use Rattle.std.proofs.Common.{IfOk, List, subst}
use Rattle.gu_terms.specs.declared.receipt.Receipt.{Receipt}
use Rattle.gu_server.specs.Receipts.{AddsReceipts}
use Rattle.gu_server.proofs.day.serve_day.Goals as goal

-- the receipts at the desk's end come after those that the day began with
pub returns-clause-receipts : goal.returns-clause-receipts
returns-clause-receipts g c =
    subst (λ (before : List Receipt). IfOk c.hold_day.result (λ r. AddsReceipts g.E.EntryLedger.opening before r.closed.book.history r.closed.receipts))
    c.in_ok-desk.ensures c.hold_day.ensures.receipts
