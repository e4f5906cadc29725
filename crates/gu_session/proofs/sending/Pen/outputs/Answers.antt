use Rattle.gu_session.proofs.Words.{◌≤◌, List, length, map, subst, arith, take_all, outbound_of, Outbound, AreOutputs, Sends, sent_with}
use Rattle.gu_session.proofs.OntoLemmas.{length-sent_with}
use Rattle.gu_session.proofs.OutputLemmas.{one_more}
use Rattle.gu_session.proofs.sending.Pen.outputs.Goals as goal

pub loop-place-preserved : goal.loop-place-preserved
loop-place-preserved c =
    rw c.in_ok-push.ensures.items
    (one_more (sent_with c.args.plan.now c.args.ready.now c.args.first c.args.now) c.loop-place.place (outbound_of c.message.result) c.loop-place.outputs.items c.in_ok-output.output
    c.message.ensures c.loop-place.invariant c.in_ok-output.ensures)

pub returns-clause-outputs : goal.returns-clause-outputs
returns-clause-outputs c =
    let all = sent_with c.args.plan.now c.args.ready.now c.args.first c.args.now in
    let past : length all ≤ c.loop-place.place =
    omega (arith, length-sent_with c.args.plan.now c.args.ready.now c.args.first c.args.now, c.len-place-end.ensures, c.loop-place-test.false) in
    rw c.in_ok-reserve.ensures.items
    (subst (λ (ms : List Outbound). AreOutputs (map Sends ms) c.loop-place.outputs.items) (take_all c.loop-place.place all past) c.loop-place.invariant)
