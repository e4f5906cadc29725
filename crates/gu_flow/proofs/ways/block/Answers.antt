use Rattle.gu_flow.proofs.Words.{arith, length-take-le}
use Rattle.gu_flow.proofs.Descents.{front_whole, block_begins, block_goes_on}
use Rattle.gu_flow.proofs.ways.block.Goals as goal

pub augment-requires-clause-whole : goal.augment-requires-clause-whole
augment-requires-clause-whole c = let e = c.trace-steps.ensures in (front_whole c.args.net.now.arcs.items c.args.flow.now c.args.marks.now c.trace-steps.new.way c.trace-steps.result e.within e.descent e.whole).0

pub augment-requires-clause-room : goal.augment-requires-clause-room
augment-requires-clause-room c = let e = c.trace-steps.ensures in (front_whole c.args.net.now.arcs.items c.args.flow.now c.args.marks.now c.trace-steps.new.way c.trace-steps.result e.within e.descent e.whole).1

pub ways-init : goal.ways-init
ways-init c = block_begins c.args.net.now.arcs.items c.args.flow.now c.augment.new.flow c.args.marks.now c.args.current.now c.trace-steps.new.way c.augment.ensures.flow c.augment.ensures.more c.requires.current

pub augment-requires-in-Some-clause-whole : goal.augment-requires-in-Some-clause-whole
augment-requires-in-Some-clause-whole c = let e = c.in-Some.ensures in (front_whole c.args.net.now.arcs.items c.ways.flow c.args.marks.now c.extend.new.way c.in-Some.steps e.within e.descent e.whole).0

pub augment-requires-in-Some-clause-room : goal.augment-requires-in-Some-clause-room
augment-requires-in-Some-clause-room c = let e = c.in-Some.ensures in (front_whole c.args.net.now.arcs.items c.ways.flow c.args.marks.now c.extend.new.way c.in-Some.steps e.within e.descent e.whole).1

pub clear_steps-kept-requires-clause-way : goal.clear_steps-kept-requires-clause-way
clear_steps-kept-requires-clause-way c =
    let e = c.in-Some.ensures in
    (front_whole c.args.net.now.arcs.items c.ways.flow c.args.marks.now c.extend.new.way c.in-Some.steps e.within e.descent e.whole).0.is_way

pub ways-preserved : goal.ways-preserved
ways-preserved c =
    let e = c.in-Some.ensures in
    let a = c.augment-in-Some.ensures in
    block_goes_on c.args.net.now.arcs.items c.args.flow.now c.ways.flow c.augment-in-Some.new.flow c.args.marks.now c.extend.new.current c.extend.new.way c.in-Some.steps c.clear_steps-kept.result c.ways.invariant.more a.flow a.more e.descent e.current e.ahead e.within (omega (arith, c.clear_steps-kept.ensures.bound, length-take-le c.in-Some.steps c.extend.new.way e.within)) c.clear_steps-kept.ensures.room
