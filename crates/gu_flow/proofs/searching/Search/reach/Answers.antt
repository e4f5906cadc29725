use Rattle.gu_flow.proofs.Words.{sym, subst, arith, room_inside, IsTree}
use Rattle.gu_flow.proofs.searching.Search.reach.Goals as goal

pub returns-then-room-gt0-clause-tree : goal.returns-then-room-gt0-clause-tree
returns-then-room-gt0-clause-tree c =
    let arcs = c.args.net.now.arcs.items in
    let a = c.args.allotment.now in
    let back = c.args.self.now.back in
    let now = c.enter.new.self in
    let r = c.room_to_new-room.ensures in
    let e = c.enter.ensures in
    subst (λ b. IsTree arcs (room_inside arcs a b) now.from now.marks.items) (sym e.keeps.back) (e.tree (room_inside arcs a back) (omega (arith, r.room (r.new c.if-room-gt0.true))) c.requires.tree)
