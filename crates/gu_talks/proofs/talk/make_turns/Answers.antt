use Rattle.std.proofs.Common.{◌≡◌, Ok, zero, suc, rules}
use Rattle.std.proofs.lemmas.Result.{IfOk-at_ok, IfOk-weaker}
use Rattle.gu_engine.specs.declared.turned.Turned.TheVariants as turned
use Rattle.gu_talks.specs.Turns.{spot}
use Rattle.gu_talks.proofs.talk.make_turns.Goals as goal

pub loop-turn-init : goal.loop-turn-init
loop-turn-init g c = IfOk-weaker c.make_turn-ahead.result.1 _ _ (λ became once. (zero, once)) c.make_turn-ahead.ensures

pub loop-turn-preserved : goal.loop-turn-preserved
loop-turn-preserved g c =
    let is : c.loop-turn.turned ≡ Ok turned.Again = search rules in
    let before = IfOk-at_ok _ is c.loop-turn.invariant in
    let mid = spot c.loop-turn.answerer c.loop-turn.ahead c.loop-turn.backlog in
    IfOk-weaker c.make_turn-read.result.1 _ _ (λ became once. (suc before.0, (mid, before.1, once))) c.make_turn-read.ensures
