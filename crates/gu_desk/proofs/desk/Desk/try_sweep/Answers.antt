use Rattle.gu_desk.proofs.Words.{◌∙◌, ap, err_from_is_err_and, inr, subst, GroupView, IsSweepRefused}
use Rattle.gu_terms.specs.declared.group.Group.{Group}
use Rattle.gu_desk.specs.Refusals.{refusal_of_second_hold}
use Rattle.gu_desk.proofs.RefusalLemmas.{refused_after}
use Rattle.gu_desk.proofs.desk.Desk.try_sweep.Goals as goal

pub returns-in_err-number-clause-refused : goal.returns-in_err-number-clause-refused
returns-in_err-number-clause-refused g c =
    let reference = g.E.EntryLedger.reference in
    let old = c.args.seat.now in
    let mid = c.view.new.seat in
    let new = c.commit.new.seat in
    let group = c.args.plan.now.group in
    let why = refusal_of_second_hold c.in_err-number.field-0.0 in
    let error = err_from_is_err_and c.from_residual-in_err-number.result c.from_residual-in_err-number.ensures.1 in
    let of_group = ap (λ (v : GroupView). v.group) (c.in_ok-token.ensures.view.1 ∙ c.in_ok-view.ensures.view) in
    let is = subst (λ (k : Group). IsSweepRefused reference mid k why new) of_group c.in_err-number.ensures.refused in
    rw (error.1, error.2) (refused_after reference old mid new group why (inr c.in_ok-view.ensures.sees) is)
