use Rattle.std.proofs.Common.{◌∙◌, arith}
use Rattle.gu_trades.specs.declared.hash_index.Link.{Link}
use Rattle.gu_trades.proofs.Rows.{step-back}
use Rattle.gu_trades.proofs.hash_index.along.Goals as goal

pub loop-at-smaller : goal.loop-at-smaller
loop-at-smaller c =
    let d : Link = record { number = 0; before = 0 } in
    (step-back c.args.links.now c.args.rows c.args.number c.loop-at.at d c.requires.linked c.loop-at-test.true c.loop-at.invariant.1 c.loop-at.invariant.2 c.if-link-number.false).1

pub loop-at-preserved : goal.loop-at-preserved
loop-at-preserved c =
    let d : Link = record { number = 0; before = 0 } in
    let step = step-back c.args.links.now c.args.rows c.args.number c.loop-at.at d c.requires.linked c.loop-at-test.true c.loop-at.invariant.1 c.loop-at.invariant.2 c.if-link-number.false in
    let inside = c.loop-at.invariant.1 in
    (c.loop-at.invariant.0 ∙ step.0, omega (arith, step.1), step.2)
