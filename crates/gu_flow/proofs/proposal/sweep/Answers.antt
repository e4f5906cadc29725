use Rattle.gu_flow.proofs.Words.{arith, ap, sym, subst, ◌∙◌, sum_by, length, lots_of, Take, AreArcs, is_reached}
use Rattle.gu_flow.proofs.Borders.{closed_stays}
use Rattle.gu_flow.proofs.Certifying.{certified, flow_is_taken, greatest, right}
use Rattle.gu_flow.proofs.NearestSides.{nearest_cut}
use Rattle.gu_flow.proofs.OldestTakes.{oldest_greatest}
use Rattle.gu_flow.proofs.ShareLemmas.{shares_total, shares_fit}
use Rattle.gu_flow.proofs.SomeLots.{above_zero-sum}
use Rattle.gu_flow.proofs.proposal.sweep.Goals as goal

pub begin-requires-clause-arcs : goal.begin-requires-clause-arcs
begin-requires-clause-arcs c = subst (AreArcs c.args.view.now) (sym c.in_ok-net.ensures.arcs) c.in_ok-arcs.ensures.arcs

pub sum_of-lots-requires : goal.sum_of-lots-requires
sum_of-lots-requires c =
    let are = c.in_ok-takes.ensures in
    let fits = shares_fit c.args.view.now c.rooms.ensures.sound c.in_ok-flow.flow.items are.shares are.all in
    rw (c.as_slice.ensures.takes, are.named, above_zero-sum are.shares) (omega (arith, fits))

pub returns : goal.returns
returns c =
    let view = c.args.view.now in
    let sound = c.rooms.ensures.sound in
    let net = c.in_ok-net.net in
    let arcs = net.arcs.items in
    let flow = c.in_ok-flow.flow.items in
    let takes = c.in_ok-takes.takes in
    let shares = c.in_ok-takes.ensures in
    let m = c.in_ok-maximize.ensures in
    let e = c.in_ok-flow.ensures in
    let are : AreArcs view arcs = subst (AreArcs view) (sym c.in_ok-net.ensures.arcs) c.in_ok-arcs.ensures.arcs in
    let cut = rw (c.arcs.ensures, c.deref.ensures.value) at c.in_ok-cut.ensures in
    let reached = is_reached c.maximize.new.search.marks.items in
    let side = m.least in
    let closed = closed_stays arcs (length net.first.items) net.is_network.joins (omega (arith, net.is_network.ends)) c.maximize.new.allotment.flow.items flow reached m.free.is_flow e.flow e.value side.closed in
    let lots =
    c.sum_of-lots.ensures ∙ ap (sum_by (λ (t : Take). t.lots)) (c.as_slice.ensures.takes ∙ shares.named)
    ∙ above_zero-sum shares.shares ∙ shares_total view sound flow shares.shares shares.all in
    let taken = flow_is_taken view sound c.requires arcs are flow e.flow reached side.source side.sink closed shares.shares shares.all c.in_ok-cut.cut cut in
    let best = greatest view sound c.requires arcs are flow e.flow reached side.source side.sink closed shares.shares shares.all c.in_ok-cut.cut cut in
    let all = right view sound c.requires arcs are flow e.flow reached side.source side.sink closed shares.shares shares.all c.in_ok-cut.cut cut in
    certified view sound c.requires arcs are flow e.flow reached side.source side.sink closed shares.shares shares.all
    c.in_ok-cut.cut cut takes shares.named c.sum_of-lots.result lots
    (oldest_greatest view sound c.requires arcs are flow shares.shares shares.all taken e.oldest best)
    (nearest_cut view sound c.requires arcs are flow e.flow reached side.source side.sink closed (λ others from shut. side.least flow others e.flow e.value from shut)
    (lots_of shares.shares) all.admissible taken c.in_ok-cut.cut cut all.covers all.room)
