use Rattle.gu_flow.proofs.Words.{◌≡◌, refl, ap, ◌∙◌, length, replicate, length-replicate, All-replicate}
use Rattle.gu_flow.proofs.PushLemmas.{empty_flow}
use Rattle.gu_flow.proofs.beginning.begin.Goals as goal

pub loop-offer-init : goal.loop-offer-init
loop-offer-init c =
    let n = length c.arcs.result.now in
    rw (c.in_ok-flow.ensures.items_if_clones_equal (λ y same. same))
    (empty_flow c.args.net.now.arcs.items (replicate n 0) (All-replicate (λ f. f ≡ 0) n 0 refl) (length-replicate n 0 ∙ ap length c.arcs.ensures))
