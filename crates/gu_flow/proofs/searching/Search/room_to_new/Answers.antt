use Rattle.gu_flow.proofs.Words.{◌≡◌, ◌==◌, ◌∙◌, ap, arith, refl, sym, cond, get_or, get_or_default, eq-eqb, near, far, other_end}
use Rattle.gu_flow.specs.Rounds.{room_of}
use Rattle.gu_flow.proofs.Measuring.{all_inside, none_inside, room_over}
use Rattle.gu_flow.proofs.searching.Search.room_to_new.Goals as goal
use Rattle.gu_flow.proofs.searching.Search.room_to_new.Goals.{then-self, else-self}

pub returns-then-room-eq0-clause-room : goal.returns-then-room-eq0-clause-room
returns-then-room-eq0-clause-room c = λ new.
    let arcs = c.args.net.now.arcs.items in
    let a = c.args.allotment.now in
    let back = c.args.self.now.back in
    let end = c.args.end in
    let regions = a.regions.items in
    let over : c.if-self.over ≡ cond back (other_end end) end = elim c.if-self.branch [
      | then-self w ↦ w.over-is ∙ w.other_end-over.ensures ∙ rw w.if-self.true refl
      | else-self w ↦ w.over-is ∙ rw w.if-self.false refl
    ] in
    let found = room_over arcs a back end c.if-self.over c.index-room.result.now c.requires.allotment.rooms c.requires.end over c.index-room.ensures in
    none_inside (get_or regions (near arcs end) 0 == get_or regions (far arcs end) 0) c.index-room.result.now (room_of arcs a back end) c.if-room-eq0.true found

pub returns-clause-room : goal.returns-clause-room
returns-clause-room c = λ new.
    let arcs = c.args.net.now.arcs.items in
    let a = c.args.allotment.now in
    let back = c.args.self.now.back in
    let end = c.args.end in
    let regions = a.regions.items in
    let over : c.if-self.over ≡ cond back (other_end end) end = elim c.if-self.branch [
      | then-self w ↦ w.over-is ∙ w.other_end-over.ensures ∙ rw w.if-self.true refl
      | else-self w ↦ w.over-is ∙ rw w.if-self.false refl
    ] in
    let found = room_over arcs a back end c.if-self.over c.index-room.result.now c.requires.allotment.rooms c.requires.end over c.index-room.ensures in
    let there : c.index.result.now ≡ get_or regions (far arcs end) 0 =
    c.index.ensures ∙ get_or_default regions c.far-other.result c.index.result.now 0 (omega (arith, c.far-other.ensures.within, c.requires.allotment.regions)) ∙ ap (λ n. get_or regions n 0) c.far-other.ensures.is in
    let same : get_or regions (near arcs end) 0 ≡ get_or regions (far arcs end) 0 = sym c.requires.region ∙ sym c.if-index-region.false ∙ there in
    all_inside (get_or regions (near arcs end) 0 == get_or regions (far arcs end) 0) c.index-room.result.now (room_of arcs a back end) (eq-eqb (get_or regions (near arcs end) 0) (get_or regions (far arcs end) 0) same) found
