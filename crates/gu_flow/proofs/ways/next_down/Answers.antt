use Rattle.gu_flow.proofs.Words.{◌<◌, ◌-◌, ◌*◌, ◌∙◌, arith, length, get_or, get_or-set_other, near, last_before}
use Rattle.gu_flow.proofs.Linking.{last_is_before}
use Rattle.gu_flow.proofs.Descents.{next_current, sum_set_less}
use Rattle.gu_flow.proofs.ways.next_down.Goals as goal

pub ends-preserved : goal.ends-preserved
ends-preserved c =
    let i = c.ends.invariant in
    let net = c.args.net.now in
    let end = get_or c.ends.current c.args.node 0 - 1 in
    let end_in : end < 2 * length net.arcs.items = omega (arith, i.current.ends c.args.node, c.ends-test.true) in
    let node_in : c.args.node < length c.ends.current = omega arith in
    rw c.ends_before.ensures.is (record {
      current = next_current net.arcs.items c.ends.current c.args.node end i.current node_in end_in (i.current.here c.args.node c.ends-test.true);
      others = λ n other. get_or-set_other c.ends.current c.args.node n (last_before net.arcs.items end (near net.arcs.items end)) 0 other ∙ i.others n other;
      less = omega (arith, sum_set_less c.ends.current c.args.node (last_before net.arcs.items end (near net.arcs.items end)) node_in (omega (arith, last_is_before net.arcs.items end (near net.arcs.items end), c.ends-test.true)), i.less);
    })
