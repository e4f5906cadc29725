use Rattle.gu_desk.proofs.Words.{refl, sym, subst, List, take, drop, length, suc, add-one, flat_map, take_all, slice_get_read, err_from_is_err_and, Receipt, IsFirstFault, receipts_in}
use Rattle.gu_desk.proofs.AuditLemmas.{parts_around, parts_more}
use Rattle.gu_desk.proofs.auditing.audit_kept.Goals as goal

pub returns-in_err-mark_kept-clause-fault : goal.returns-in_err-mark_kept-clause-fault
returns-in_err-mark_kept-clause-fault c =
    let parts = c.args.parts.now in
    let k = c.loop-part.part-index in
    let at = slice_get_read parts (length parts) k c.part-item.result refl c.loop-part-test.true c.part-item.is in
    let error = err_from_is_err_and c.from_residual-in_err-mark_kept.result c.from_residual-in_err-mark_kept.ensures.1 in
    let first = c.in_err-mark_kept.ensures.fault (flat_map receipts_in (take k parts)) (flat_map receipts_in (drop (suc k) parts)) c.loop-part.invariant in
    rw (error.1, error.2, ← c.history-history.ensures.history)
    (subst (λ (us : List Receipt). IsFirstFault c.history-history.result.now us c.in_err-mark_kept.field-0.0) (sym (parts_around receipts_in parts k c.part-item.result at)) first)

pub loop-part-preserved : goal.loop-part-preserved
loop-part-preserved c =
    let parts = c.args.parts.now in
    let k = c.loop-part.part-index in
    let at = slice_get_read parts (length parts) k c.part-item.result refl c.loop-part-test.true c.part-item.is in
    rw (add-one, parts_more receipts_in parts k c.part-item.result at) (c.in_ok-mark_kept.ensures.ok (flat_map receipts_in (take k parts)) c.loop-part.invariant)

pub returns-clause-fault : goal.returns-clause-fault
returns-clause-fault c =
    let whole = take_all c.loop-part.part-index c.args.parts.now c.loop-part-test.false in
    rw (← c.history-history.ensures.history)
    (c.end.ensures.fault c.history-history.result.now (flat_map receipts_in c.args.parts.now) (rw c.as_slice.ensures.value (rw whole at c.loop-part.invariant)))
