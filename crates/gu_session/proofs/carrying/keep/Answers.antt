use Rattle.gu_session.proofs.Words.{◌≤◌, List, length, sym, ap, ◌∙◌, arith, take_all, outbound_of, Outbound, numbered, sent_in, extended}
use Rattle.std.specs.List.{filter_map}
use Rattle.gu_session.proofs.KeptLemmas.{extended-few, extended-more, extended-none}
use Rattle.gu_session.proofs.NumberLemmas.{length-numbered}
use Rattle.gu_session.proofs.carrying.keep.Goals as goal

pub loop-place-init : goal.loop-place-init
loop-place-init c = sym (extended-none c.args.kept.now c.requires.few)

pub keep-requires-clause-few : goal.keep-requires-clause-few
keep-requires-clause-few c = rw c.loop-place.invariant (extended-few c.args.kept.now _)

pub loop-place-preserved : goal.loop-place-preserved
loop-place-preserved c =
    let all = numbered c.args.plan.now.after.firm c.args.now c.args.first c.args.plan.now.messages in
    c.keep.ensures
    ∙ extended-more c.args.kept.now c.loop-place.kept all c.loop-place.place (outbound_of c.new_message.result) c.new_message.ensures.message c.loop-place.invariant

pub returns : goal.returns
returns c =
    let all = numbered c.args.plan.now.after.firm c.args.now c.args.first c.args.plan.now.messages in
    let past : length all ≤ c.loop-place.place =
    omega (arith, length-numbered c.args.plan.now.after.firm c.args.now c.args.first c.args.plan.now.messages, c.len-place-end.ensures.len, c.loop-place-test.false) in
    c.loop-place.invariant ∙ ap (λ (ms : List Outbound). extended c.args.kept.now (filter_map sent_in ms)) (take_all c.loop-place.place all past)
