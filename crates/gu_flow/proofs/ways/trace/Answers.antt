use Rattle.gu_flow.proofs.Words.{◌≤◌, arith, length, level_at}
use Rattle.gu_flow.proofs.Descents.{trace_within, traces}
use Rattle.gu_flow.proofs.ways.trace.Goals as goal

pub bounds-way-steps : goal.bounds-way-steps
bounds-way-steps c =
    let top : level_at c.args.marks.now 1 ≤ length c.loop-node.way = omega (arith, c.requires.tree.levels 1) in
    trace_within c.args.net.now.arcs.items c.args.flow.now c.args.marks.now c.loop-node.way c.loop-node.steps c.loop-node.node c.requires.tree top c.loop-node.invariant c.loop-node-test.true

pub loop-node-preserved : goal.loop-node-preserved
loop-node-preserved c =
    let top : level_at c.args.marks.now 1 ≤ length c.loop-node.way = omega (arith, c.requires.tree.levels 1) in
    rw (c.far-node.ensures.is, c.other_end-end.ensures) (traces c.args.net.now.arcs.items c.args.flow.now c.args.marks.now c.loop-node.way c.loop-node.steps c.loop-node.node c.requires.tree top c.loop-node.invariant c.loop-node-test.true)
