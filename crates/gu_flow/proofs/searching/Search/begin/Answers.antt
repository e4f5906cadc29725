use Rattle.gu_flow.proofs.Words.{◌<◌, ◌∙◌, ap, refl, arith, length, get_or-set_same, get_or-set_other, length-set, Mark, no_mark}
use Rattle.gu_flow.proofs.Looking.{search_begins}
use Rattle.gu_flow.proofs.searching.Search.begin.Goals as goal

pub returns-clause-search : goal.returns-clause-search
returns-clause-search c = λ room.
    let marks = c.args.self.now.marks.items in
    let from = c.args.from in
    let first : Mark = record { via = 0; level = 1; lots = c.args.most } in
    let inside : from < length marks = omega (arith, c.requires.places.marks) in
    let there = get_or-set_same marks from first no_mark inside in
    search_begins c.args.net.now.arcs.items room _ (omega (arith, length-set marks from first, inside))
    (λ n other. ap (λ (m : Mark). m.level) (get_or-set_other marks from n first no_mark other) ∙ c.requires.clear n)
    (ap (λ (m : Mark). m.level) there) (omega (arith, ap (λ (m : Mark). m.lots) there, c.requires.some))
    (get_or-set_same c.args.self.now.queue.items 0 from 0 (omega (arith, c.requires.places.queue))) refl refl c.ends-self.ensures.is
