use Rattle.gu_flow.proofs.Words.{◌∙◌, room_inside}
use Rattle.gu_flow.proofs.rounds.TwoWay.go_round.Goals as goal

pub settle-found-requires-clause-under_way : goal.settle-found-requires-clause-under_way
settle-found-requires-clause-under_way c =
    let arcs = c.args.net.now.arcs.items in
    let a = c.args.allotment.now in
    let are = c.requires.ready.are in
    let e = c.begin.ensures in
    let f = c.begin-2.ensures in
    record {
      are = record { ahead = e.places; back = f.places; along = e.same.1 ∙ are.along; against = f.same.1 ∙ are.against };
      ahead = e.search (room_inside arcs a c.begin.new.self.back);
      back = f.search (room_inside arcs a c.begin-2.new.self.back);
    }
