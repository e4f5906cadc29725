use Rattle.gu_desk.proofs.Words.{refl, sym, subst, List, take, drop, length, suc, add-one, take_all, slice_get_read, err_from_is_err_and, Receipt, IsFirstFault}
use Rattle.gu_desk.proofs.AuditLemmas.{around, take_at}
use Rattle.gu_desk.proofs.auditing.audit.Goals as goal

pub returns-in_err-mark-clause-fault : goal.returns-in_err-mark-clause-fault
returns-in_err-mark-clause-fault c =
    let rs = c.args.receipts.now in
    let k = c.loop-receipt.receipt-index in
    let at = slice_get_read rs (length rs) k c.receipt-item.result refl c.loop-receipt-test.true c.receipt-item.is in
    let error = err_from_is_err_and c.from_residual-in_err-mark.result c.from_residual-in_err-mark.ensures.1 in
    let first = c.in_err-mark.ensures.fault (take k rs) (drop (suc k) rs) c.loop-receipt.invariant in
    rw (error.1, error.2, ← c.history-history.ensures.history)
    (subst (λ (us : List Receipt). IsFirstFault c.history-history.result.now us c.in_err-mark.field-0.0) (sym (around rs k c.receipt-item.result at)) first)

pub loop-receipt-preserved : goal.loop-receipt-preserved
loop-receipt-preserved c =
    let rs = c.args.receipts.now in
    let k = c.loop-receipt.receipt-index in
    let at = slice_get_read rs (length rs) k c.receipt-item.result refl c.loop-receipt-test.true c.receipt-item.is in
    rw (add-one, take_at rs k c.receipt-item.result at) (c.in_ok-mark.ensures.ok (take k rs) c.loop-receipt.invariant)

pub returns-clause-fault : goal.returns-clause-fault
returns-clause-fault c =
    let whole = take_all c.loop-receipt.receipt-index c.args.receipts.now c.loop-receipt-test.false in
    rw (← c.history-history.ensures.history)
    (c.end.ensures.fault c.history-history.result.now c.args.receipts.now (rw c.as_slice.ensures.value (rw whole at c.loop-receipt.invariant)))
