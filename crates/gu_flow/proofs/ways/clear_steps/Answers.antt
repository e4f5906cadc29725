use Rattle.gu_flow.proofs.Words.{◌≤◌, arith, get_or, below_more, residual_in}
use Rattle.gu_flow.proofs.ways.clear_steps.Goals as goal

pub loop-step-preserved : goal.loop-step-preserved
loop-step-preserved c = below_more (λ i. 1 ≤ residual_in c.args.net.now.arcs.items c.args.flow.now (get_or c.args.way.now i 0)) c.loop-step.step c.loop-step.invariant (omega arith)
