use Rattle.gu_flow.proofs.Words.{◌<◌, ◌∙◌, refl, ap, arith, length, subst, sym, near, last_before, JoinsNodes}
use Rattle.gu_flow.proofs.EndLemmas.{near-other_end, near_in}
use Rattle.gu_flow.proofs.Linking.{link_one}
use Rattle.gu_flow.proofs.network.link.Goals as goal

pub loop-end-init : goal.loop-end-init
unfolding last_before
loop-end-init c = record { last = λ n n_in. c.requires.none n 0 n_in; before = λ e e_in. absurd (omega arith); leads = λ e e_in. absurd (omega arith) }

pub loop-end-preserved : goal.loop-end-preserved
loop-end-preserved c =
    let joins : JoinsNodes c.args.arcs.now (length c.loop-end.first) = subst (JoinsNodes c.args.arcs.now) (sym c.loop-end.auto.first) c.requires.joins in
    let node_in : near c.args.arcs.now c.loop-end.end < length c.loop-end.first = near_in c.args.arcs.now c.loop-end.end _ joins (omega arith) in
    rw c.near-node.ensures (link_one c.args.arcs.now c.loop-end.first c.loop-end.links c.loop-end.end _ c.loop-end.invariant (omega arith) node_in
    (c.near.ensures ∙ ap (near c.args.arcs.now) c.other_end.ensures ∙ near-other_end c.args.arcs.now c.loop-end.end) refl)
