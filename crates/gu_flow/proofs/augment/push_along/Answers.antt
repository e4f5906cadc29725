use Rattle.std.proofs.Common.{arith}
use Rattle.gu_flow.proofs.Augmenting.{augment_on, step_room}
use Rattle.gu_flow.proofs.EndLemmas.{other_end-in}
use Rattle.gu_flow.proofs.augment.push_along.Goals as goal

pub push-requires-clause-end : goal.push-requires-clause-end
push-requires-clause-end c = rw c.other_end.ensures (other_end-in _ _ (c.requires.whole.is_way.ends c.loop-end.end-index (omega arith)))

pub push-requires-clause-room : goal.push-requires-clause-room
push-requires-clause-room c = rw c.other_end.ensures (step_room c.args.net.now.arcs.items c.args.flow.now c.loop-end.flow c.args.way.now c.args.lots c.loop-end.end-index c.requires.whole c.loop-end.invariant (omega arith))

pub loop-end-preserved : goal.loop-end-preserved
loop-end-preserved c =
    augment_on c.args.net.now.arcs.items c.args.flow.now c.loop-end.flow c.args.way.now c.args.lots c.loop-end.end-index c.requires.whole c.loop-end.invariant c.push.new.flow (omega arith) (rw c.other_end.ensures at c.push.ensures)
