use Rattle.gu_flow.proofs.Words.{◌≡◌, ◌-◌, ◌<◌, ◌∙◌, ap, sym, arith, inl, inr, length, get_or, cases_eq, get_or_default, far, room_inside, level_at}
use Rattle.gu_flow.proofs.Looking.{place_in, skips_one}
use Rattle.gu_flow.proofs.searching.Search.skip.Goals as goal

pub index-region-requires : goal.index-region-requires
index-region-requires c =
    let s = c.args.self.now in
    let w = c.requires.search.waits in
    let inside = place_in s.marks.items s.queue.items s.count s.done w (omega (arith, c.requires.places.marks, c.requires.places.queue)) c.requires.on in
    omega (arith, c.index.ensures, get_or_default s.queue.items s.done c.index.result.now 0 inside, (w.reached s.done c.requires.on).0, c.requires.places.marks, c.requires.allotment.regions)

pub room_to_new-room-requires-clause-region : goal.room_to_new-room-requires-clause-region
room_to_new-room-requires-clause-region c =
    let s = c.args.self.now in
    let regions = c.args.allotment.now.regions.items in
    let w = c.requires.search.waits in
    let inside = place_in s.marks.items s.queue.items s.count s.done w (omega (arith, c.requires.places.marks, c.requires.places.queue)) c.requires.on in
    let node : c.index.result.now ≡ get_or s.queue.items s.done 0 = c.index.ensures ∙ get_or_default s.queue.items s.done c.index.result.now 0 inside in
    let node_in : c.index.result.now < length regions = omega (arith, node, (w.reached s.done c.requires.on).0, c.requires.places.marks, c.requires.allotment.regions) in
    c.index-region.ensures ∙ get_or_default regions c.index.result.now c.index-region.result.now 0 node_in
    ∙ ap (λ n. get_or regions n 0) (node ∙ sym (c.loop-looked.invariant.on.ends_at (omega (arith, c.if-ends-eq0.false))))

pub loop-looked-preserved : goal.loop-looked-preserved
loop-looked-preserved c =
    let s = c.args.self.now in
    let arcs = c.args.net.now.arcs.items in
    let ends = c.loop-looked.ends in
    let e = c.ends_before-ends.ensures in
    record {
      on = skips_one arcs (room_inside arcs c.args.allotment.now s.back) s c.requires.search c.requires.on ends c.ends_before-ends.result c.loop-looked.invariant.on (omega (arith, c.if-ends-eq0.false)) e.is
          (λ some. elim (cases_eq (level_at s.marks.items (far arcs (ends - 1))) 0) [ inl none ↦ absurd (omega (arith, some, c.room_to_new-room.ensures.room none, c.if-room-gt0.false)) | inr reached ↦ omega (arith, reached) ]);
      less = omega (arith, c.loop-looked.invariant.less, e.less, c.if-ends-eq0.false);
    }
