use Rattle.gu_flow.proofs.Words.{◌≤◌, arith, length, level_at}
use Rattle.gu_flow.proofs.Descents.{descent_within, goes_down, goes_back, falls_back, passes, sum_set_less}
use Rattle.gu_flow.proofs.ways.extend.Goals as goal

pub bounds-way-steps : goal.bounds-way-steps
bounds-way-steps c =
    let top : level_at c.args.marks.now 1 ≤ length c.steps.way = omega (arith, c.requires.levels 1) in
    let e = c.in-Some.ensures in
    descent_within c.args.net.now.arcs.items c.args.flow.now c.args.marks.now c.steps.current c.steps.way c.steps.steps c.steps.node top c.steps.invariant c.next_down.new.current e.current e.others c.in-Some.end e.down

pub steps-preserved-in-Some : goal.steps-preserved-in-Some
steps-preserved-in-Some c =
    let top : level_at c.args.marks.now 1 ≤ length c.steps.way = omega (arith, c.requires.levels 1) in
    let e = c.in-Some.ensures in
    rw c.far-node.ensures.is
    (goes_down c.args.net.now.arcs.items c.args.flow.now c.args.marks.now c.steps.current c.steps.way c.steps.steps c.steps.node top c.steps.invariant c.next_down.new.current e.current e.others c.in-Some.end e.down (omega arith))

pub steps-preserved : goal.steps-preserved
steps-preserved c =
    let top : level_at c.args.marks.now 1 ≤ length c.steps.way = omega (arith, c.requires.levels 1) in
    let e = c.in-None.ensures in
    rw (c.near-node.ensures.is, c.ends_before.ensures.is)
    (goes_back c.args.net.now.arcs.items c.args.flow.now c.args.marks.now c.steps.current c.steps.way c.steps.steps c.steps.node top c.steps.invariant c.next_down.new.current e.current e.others (omega arith) (omega arith) (omega arith))

pub steps-smaller : goal.steps-smaller
steps-smaller c =
    let top : level_at c.args.marks.now 1 ≤ length c.steps.way = omega (arith, c.requires.levels 1) in
    let e = c.in-None.ensures in
    let level = falls_back c.args.net.now.arcs.items c.args.flow.now c.args.marks.now c.steps.current c.steps.way c.steps.steps c.steps.node top c.steps.invariant c.next_down.new.current e.current e.others (omega arith) in
    let past = passes c.args.net.now.arcs.items c.args.flow.now c.args.marks.now c.steps.current c.steps.way c.steps.steps c.steps.node top c.steps.invariant c.next_down.new.current e.current e.others (omega arith) in
    rw (c.near-node.ensures.is, c.ends_before.ensures.is) (omega (arith, level, sum_set_less c.next_down.new.current _ _ (omega arith) past, e.less))
