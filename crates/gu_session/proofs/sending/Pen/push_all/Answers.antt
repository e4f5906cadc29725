use Rattle.gu_session.proofs.Words.{◌≤◌, List, length, subst, ◌∙◌, arith, flat_map, take_all, outbound_of, Outbound, FollowText, bytes_in, sent_with}
use Rattle.gu_session.proofs.OntoLemmas.{follow-more, length-sent_with, on_err_from}
use Rattle.gu_session.proofs.sending.Pen.push_all.Goals as goal

pub loop-place-preserved : goal.loop-place-preserved
loop-place-preserved c =
    follow-more c.push.new.output (sent_with c.args.plan.now c.args.ready.now c.args.first c.args.now) c.loop-place.place (outbound_of c.message.result) c.args.output.now.items
    c.loop-place.output.items c.message.ensures c.loop-place.invariant c.in_ok-push.ensures.pushed

pub returns-clause-pushed : goal.returns-clause-pushed
returns-clause-pushed c =
    let all = sent_with c.args.plan.now c.args.ready.now c.args.first c.args.now in
    let past : length all ≤ c.loop-place.place =
    omega (arith, length-sent_with c.args.plan.now c.args.ready.now c.args.first c.args.now, c.len-place-end.ensures, c.loop-place-test.false) in
    subst (λ (ms : List Outbound). FollowText ms c.args.output.now.items c.loop-place.output.items) (take_all c.loop-place.place all past) c.loop-place.invariant

pub returns-in_err-push-clause-refused : goal.returns-in_err-push-clause-refused
returns-in_err-push-clause-refused c =
    on_err_from c.from_residual.result (flat_map bytes_in c.loop-place.invariant.outputs, c.in_err-push.ensures.refused ∙ c.loop-place.invariant.text)
