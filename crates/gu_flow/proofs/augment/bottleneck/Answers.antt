use Rattle.gu_flow.proofs.Words.{◌≤◌, arith, get_or, below_more, residual_in}
use Rattle.gu_flow.proofs.Augmenting.{narrow_more}
use Rattle.gu_flow.proofs.augment.bottleneck.Goals as goal

pub loop-end-preserved : goal.loop-end-preserved
loop-end-preserved c =
    let arcs = c.args.net.now.arcs.items in
    let flow = c.args.flow.now in
    let way = c.args.way.now in
    let i = c.loop-end.end-index in
    let h = c.loop-end.invariant in
    record {
      least = below_more (λ j. c.min-least.result ≤ residual_in arcs flow (get_or way j 0)) i (λ j j_in. omega (arith, h.least j j_in)) (omega arith);
      narrow = λ _. narrow_more arcs flow way i c.loop-end.least c.residual_in.result c.min-least.result h.narrow (λ e. omega arith) c.residual_in.ensures c.min-least.ensures;
      first = λ e. absurd (omega arith);
      some = λ all. omega (arith, h.some (λ j j_in. all j (omega arith)), all i (omega arith));
    }
