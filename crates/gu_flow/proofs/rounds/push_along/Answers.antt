use Rattle.gu_flow.proofs.Words.{◌≡◌, ◌≢◌, ℕ, ◌*◌, ◌/◌, ◌≤◌, ◌∙◌, get_or, KeepsFloors, ap, sym, subst, arith, get_or_default, Mark, near, room_out, Pushes, no_mark, mark_at}
use Rattle.gu_flow.proofs.Measuring.{measured}
use Rattle.gu_flow.proofs.RoundPushing.{entry_room, flow_stays, pushes_on}
use Rattle.gu_flow.proofs.rounds.push_along.Goals as goal

pub push-requires-clause-room : goal.push-requires-clause-room
push-requires-clause-room c =
    let arcs = c.args.net.now.arcs.items in
    let marks = c.args.search.now.marks.items in
    let l = c.loop-node in
    let mark : c.index.result.now ≡ mark_at marks l.node = c.index.ensures ∙ get_or_default marks l.node c.index.result.now no_mark (omega (arith, c.requires.places.marks, l.invariant.within)) in
    subst (λ (m : Mark). c.args.lots ≤ room_out arcs l.allotment.floors.items l.allotment.flow.items m.via) (sym mark)
    (entry_room arcs c.args.allotment.now l.allotment c.args.search.now.from marks c.args.to c.args.lots l.node c.requires.tree c.loop-node-test.true l.invariant.pushing)

pub loop-node-preserved : goal.loop-node-preserved
loop-node-preserved c =
    let arcs = c.args.net.now.arcs.items in
    let marks = c.args.search.now.marks.items in
    let l = c.loop-node in
    let e = c.push.ensures in
    let mark : c.index.result.now ≡ mark_at marks l.node = c.index.ensures ∙ get_or_default marks l.node c.index.result.now no_mark (omega (arith, c.requires.places.marks, l.invariant.within)) in
    let next : c.near-node.result ≡ near arcs (mark_at marks l.node).via = c.near-node.ensures.is ∙ ap (λ (m : Mark). near arcs m.via) mark in
    let m = c.measure.ensures in
    let now = c.measure.new.self in
    let pushes = subst (λ f. Pushes arcs l.allotment.flow.items f.items (mark_at marks l.node).via c.args.lots) (sym m.same.0) (subst (λ (m : Mark). Pushes arcs l.allotment.flow.items c.push.new.self.flow.items m.via c.args.lots) mark e.pushes) in
    let keeps = subst (λ f. KeepsFloors f.items now.flow.items) (sym m.same.1) (subst (λ f. KeepsFloors c.push.new.self.floors.items f.items) (sym m.same.0) e.keeps) in
    let flows : (k : ℕ) → k ≢ c.index.result.now.via / 2 → get_or c.push.new.self.flow.items k 0 ≡ get_or l.allotment.flow.items k 0 =
    λ k other. flow_stays arcs l.allotment.flow.items c.push.new.self.flow.items k (e.pushes.others (2 * k) (λ same. other (omega (arith, same)))) in
    let rooms = measured arcs l.allotment c.push.new.self now (c.index.result.now.via / 2) l.invariant.pushing.rooms flows (λ k _. ap (λ f. get_or f.items k 0) e.same.0) e.same.2 m.here m.others m.size in
    record {
      pushing = rw next (pushes_on arcs c.args.allotment.now l.allotment c.args.search.now.from marks c.args.to c.args.lots l.node c.requires.tree c.loop-node-test.true l.invariant.pushing now pushes keeps rooms (m.same.1 ∙ e.same.0, m.same.2 ∙ e.same.1));
      within = c.near-node.ensures.within;
    }
