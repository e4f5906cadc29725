use Rattle.gu_desk.proofs.Words.{◌∙◌, ap, sym, subst, ◌≤◌, List, [], ◌∷◌, ◌++◌, Option, OnOk, IfErr, take, drop, length, suc, add-one, append_assoc, append-nil, arith, take_all, err_from_is_err_and, Receipt, IsFirstFault, AreMarks}
use Rattle.std.specs.Option.{option_to_list}
use Rattle.gu_desk.proofs.AuditLemmas.{around_kept, take_at}
use Rattle.gu_desk.proofs.auditing.mark_kept.Goals as goal

pub returns-in_err-mark-clause-fault : goal.returns-in_err-mark-clause-fault
returns-in_err-mark-clause-fault c seen rest are =
    let rs = c.args.receipts.now.earlier in
    let k = c.loop-place.place in
    let more : List Receipt = option_to_list c.args.receipts.now.last in
    let error = err_from_is_err_and c.from_residual-in_err-mark.result c.from_residual-in_err-mark.ensures.1 in
    let first = c.in_err-mark.ensures.fault (seen ++ take k rs) (drop (suc k) rs ++ (more ++ rest)) (c.loop-place.invariant.marks seen are) in
    let parts = ap (λ (us : List Receipt). seen ++ us) (append_assoc rs more rest) ∙ around_kept seen rs (more ++ rest) k c.in_ok-receipt.receipt c.in_ok-receipt.ensures in
    rw (error.1, error.2)
    (subst (λ (us : List Receipt). IsFirstFault c.args.history.now us c.in_err-mark.field-0.0) (sym parts) first)

pub loop-place-preserved : goal.loop-place-preserved
loop-place-preserved c =
    let rs = c.args.receipts.now.earlier in
    let k = c.loop-place.place in
    let r = c.in_ok-receipt.receipt in
    record {
      sized = c.in_ok-mark.ensures.sized;
      marks = λ seen are.
          let parts = append_assoc seen (take k rs) (r ∷ []) ∙ ap (λ (us : List Receipt). seen ++ us) (sym (take_at rs k r c.in_ok-receipt.ensures)) in
          rw add-one
          (subst (λ (us : List Receipt). AreMarks c.args.history.now us c.mark.new.with_receipt.items) parts (c.in_ok-mark.ensures.ok (seen ++ take k rs) (c.loop-place.invariant.marks seen are)));
    }

pub returns-in-Some-clause-ok : goal.returns-in-Some-clause-ok
returns-in-Some-clause-ok c seen are =
    let rs = c.args.receipts.now.earlier in
    let last = c.in-Some.last in
    let past : length rs ≤ c.loop-place.place = omega arith in
    let whole = take_all c.loop-place.place rs past in
    let parts =
    ap (λ (us : List Receipt). (seen ++ us) ++ last ∷ []) whole
    ∙ append_assoc seen rs (last ∷ [])
    ∙ ap (λ (l : Option Receipt). seen ++ (rs ++ option_to_list l)) (sym c.in-Some.is) in
    subst (λ (us : List Receipt). OnOk c.mark-in-Some.result (AreMarks c.args.history.now us c.mark-in-Some.new.with_receipt.items)) parts
    (c.mark-in-Some.ensures.ok (seen ++ take c.loop-place.place rs) (c.loop-place.invariant.marks seen are))

pub returns-in-Some-clause-fault : goal.returns-in-Some-clause-fault
returns-in-Some-clause-fault c seen rest are =
    let rs = c.args.receipts.now.earlier in
    let last = c.in-Some.last in
    let past : length rs ≤ c.loop-place.place = omega arith in
    let whole = take_all c.loop-place.place rs past in
    let parts =
    ap (λ (us : List Receipt). (seen ++ us) ++ last ∷ rest) whole
    ∙ append_assoc seen rs (last ∷ rest)
    ∙ ap (λ (us : List Receipt). seen ++ us) (sym (append_assoc rs (last ∷ []) rest))
    ∙ ap (λ (l : Option Receipt). seen ++ ((rs ++ option_to_list l) ++ rest)) (sym c.in-Some.is) in
    subst (λ (us : List Receipt). IfErr c.mark-in-Some.result (IsFirstFault c.args.history.now us)) parts
    (c.mark-in-Some.ensures.fault (seen ++ take c.loop-place.place rs) rest (c.loop-place.invariant.marks seen are))

pub returns-in-None-clause-ok : goal.returns-in-None-clause-ok
returns-in-None-clause-ok c seen are =
    let rs = c.args.receipts.now.earlier in
    let past : length rs ≤ c.loop-place.place = omega arith in
    let whole = take_all c.loop-place.place rs past in
    let parts =
    ap (λ (us : List Receipt). seen ++ us) (whole ∙ sym (append-nil rs))
    ∙ ap (λ (l : Option Receipt). seen ++ (rs ++ option_to_list l)) (sym c.in-None.is) in
    subst (λ (us : List Receipt). AreMarks c.args.history.now us c.loop-place.with_receipt.items) parts (c.loop-place.invariant.marks seen are)
