use Rattle.gu_flow.proofs.Words.{◌≡◌, ◌+◌, ◌*◌, ◌<◌, ◌∙◌, refl, ap, sym, arith, length, get_or, subst, get_or_default, last_before, Search, room_inside, level_at, IsSearch}
use Rattle.gu_flow.proofs.Looking.{place_in, search_goes_on, search_skips, search_turns, some_lots}
use Rattle.gu_flow.proofs.searching.Search.look.Goals as goal

pub enter-requires-clause-end : goal.enter-requires-clause-end
enter-requires-clause-end c =
    let s = c.args.self.now in
    let q = c.requires.search in
    let inside = place_in s.marks.items s.queue.items s.count s.done q.waits (omega (arith, c.requires.places.marks, c.requires.places.queue)) c.requires.on in
    let node : c.index-node.result.now ≡ get_or s.queue.items s.done 0 = c.index-node.ensures ∙ get_or_default s.queue.items s.done c.index-node.result.now 0 inside in
    let g = c.skip-ends.ensures.on in
    let left = (c.skip-ends.ensures.new c.if-room-gt0.true).0 in
    (omega (arith, g.ends_in, q.ends_in, left), node ∙ sym (g.ends_at left))

pub enter-requires-clause-reached : goal.enter-requires-clause-reached
enter-requires-clause-reached c =
    let s = c.args.self.now in
    let q = c.requires.search in
    let arcs = c.args.net.now.arcs.items in
    let inside = place_in s.marks.items s.queue.items s.count s.done q.waits (omega (arith, c.requires.places.marks, c.requires.places.queue)) c.requires.on in
    let node : c.index-node.result.now ≡ get_or s.queue.items s.done 0 = c.index-node.ensures ∙ get_or_default s.queue.items s.done c.index-node.result.now 0 inside in
    let reached = subst (λ n. 0 < level_at s.marks.items n) (sym node) (q.waits.reached s.done c.requires.on).1 in
    (reached, some_lots arcs (room_inside arcs c.args.allotment.now s.back) s.from s.marks.items c.index-node.result.now q.tree reached)

pub returns-then-room-gt0-clause-search : goal.returns-then-room-gt0-clause-search
returns-then-room-gt0-clause-search c =
    let s = c.args.self.now in
    let q = c.requires.search in
    let arcs = c.args.net.now.arcs.items in
    let a = c.args.allotment.now in
    let k = c.skip-ends.ensures in
    let e = c.enter.ensures in
    let left = (k.new c.if-room-gt0.true).0 in
    let room = room_inside arcs a s.back in
    let now : Search = record c.enter.new.self { ends = c.ends_before-self.result } in
    subst (λ b. IsSearch arcs (room_inside arcs a b) now) (sym e.keeps.back)
    (search_goes_on arcs room (record s { ends = c.skip-ends.result.0 }) (search_skips arcs room s q c.requires.on c.skip-ends.result.0 k.on) c.requires.on left now c.ends_before-self.result c.ends_before-self.ensures.is
    (record { from = e.keeps.from; back = e.keeps.back; marks = e.keeps.marks; places = e.keeps.places; grows = e.keeps.grows })
    e.position.0 refl (e.tree room (omega (arith, k.room c.if-room-gt0.true)) q.tree) e.waits (λ _. e.there))

pub ends-self-requires : goal.ends-self-requires
ends-self-requires c =
    let s = c.args.self.now in
    let w = c.requires.search.waits in
    let inside = place_in s.marks.items s.queue.items s.count (s.done + 1) w (omega (arith, c.requires.places.marks, c.requires.places.queue)) c.if-self.true in
    omega (arith, c.index.ensures, get_or_default s.queue.items (s.done + 1) c.index.result.now 0 inside, (w.reached (s.done + 1) c.if-self.true).0, c.requires.places.marks)

pub returns-then-self-clause-search : goal.returns-then-self-clause-search
returns-then-self-clause-search c =
    let s = c.args.self.now in
    let q = c.requires.search in
    let arcs = c.args.net.now.arcs.items in
    let room = room_inside arcs c.args.allotment.now s.back in
    let inside = place_in s.marks.items s.queue.items s.count (s.done + 1) q.waits (omega (arith, c.requires.places.marks, c.requires.places.queue)) c.if-self.true in
    let node : c.index.result.now ≡ get_or s.queue.items (s.done + 1) 0 = c.index.ensures ∙ get_or_default s.queue.items (s.done + 1) c.index.result.now 0 inside in
    search_turns arcs room (record s { ends = c.skip-ends.result.0 }) (search_skips arcs room s q c.requires.on c.skip-ends.result.0 c.skip-ends.ensures.on) c.requires.on c.ends-self.result c.if-ends-eq0.true c.ends-self.ensures.within
    (λ _. c.ends-self.ensures.is ∙ ap (last_before arcs (2 * length arcs)) node)

pub returns-else-self-clause-search : goal.returns-else-self-clause-search
returns-else-self-clause-search c =
    let s = c.args.self.now in
    let q = c.requires.search in
    let arcs = c.args.net.now.arcs.items in
    let room = room_inside arcs c.args.allotment.now s.back in
    search_turns arcs room (record s { ends = c.skip-ends.result.0 }) (search_skips arcs room s q c.requires.on c.skip-ends.result.0 c.skip-ends.ensures.on) c.requires.on c.skip-ends.result.0 c.if-ends-eq0.true (omega (arith, c.if-ends-eq0.true))
    (λ more. absurd (omega (arith, more, c.if-self.false)))

pub returns-else-ends-eq0-clause-search : goal.returns-else-ends-eq0-clause-search
returns-else-ends-eq0-clause-search c =
    let s = c.args.self.now in
    let arcs = c.args.net.now.arcs.items in
    search_skips arcs (room_inside arcs c.args.allotment.now s.back) s c.requires.search c.requires.on c.skip-ends.result.0 c.skip-ends.ensures.on
