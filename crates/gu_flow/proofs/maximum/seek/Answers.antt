use Rattle.gu_flow.proofs.Words.{◌∙◌, room_inside}
use Rattle.gu_flow.proofs.LeastSides.{over_flow}
use Rattle.gu_flow.proofs.maximum.seek.Goals as goal

pub looks-init : goal.looks-init
looks-init c =
    let e = c.begin.ensures in
    record {
      places = e.places;
      search = e.search (room_inside c.args.net.now.arcs.items c.args.allotment.now c.begin.new.self.back);
      source = e.same.0;
      ahead = e.same.1 ∙ c.requires.ready.ahead;
    }

pub returns-then-eq-clause-search : goal.returns-then-eq-clause-search
returns-then-eq-clause-search c =
    let i = c.looks.invariant in
    let e = c.look.ensures in
    over_flow c.args.net.now.arcs.items _ c.args.allotment.now c.requires.free c.look.new.self (record { places = e.places; search = e.search; source = e.keeps.from ∙ i.source; ahead = e.keeps.back ∙ i.ahead })
