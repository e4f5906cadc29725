use Rattle.gu_flow.proofs.Words.{◌≡◌, ◌≢◌, ℕ, ◌*◌, ◌<◌, set, value_of, IsFlow, true, ◌/◌, ◌%◌, ◌∙◌, ap, sym, subst, arith, length, get_or, get_or-set_same, get_or-set_other, length-set, eq-eqb, get_or_default, Mark, is_tail, far, KeepsFloors, no_mark, level_at, mark_at}
use Rattle.gu_flow.proofs.Measuring.{measured}
use Rattle.gu_flow.proofs.RoundPushing.{flow_stays}
use Rattle.gu_flow.proofs.Raising.{carries, head_of, round_ends, round_is_flow, tail_of}
use Rattle.gu_flow.proofs.rounds.bring_round.Goals as goal

pub push-requires-clause-room : goal.push-requires-clause-room
push-requires-clause-room c =
    let arcs = c.args.net.now.arcs.items in
    let place = c.args.place in
    let marks = c.args.search.now.marks.items in
    let node = c.near-tail.result in
    let mark : c.index.result.now ≡ mark_at marks node = c.index.ensures ∙ get_or_default marks node c.index.result.now no_mark (omega (arith, c.requires.places.marks, c.near-tail.ensures.within)) in
    let found = subst (λ n. 0 < level_at marks n) (sym (c.near-tail.ensures.is ∙ tail_of arcs place)) c.requires.ends.1 in
    let tail : is_tail (2 * place) ≡ true = eq-eqb ((2 * place) % 2) 0 (omega arith) in
    let half : 2 * place / 2 ≡ place = omega arith in
    rw (tail, half) (omega (arith, c.push_along.ensures.floor place c.requires.place.1 (sym c.requires.ends.0), c.requires.fits, ap (λ (m : Mark). m.lots) mark, c.requires.tree.most_lots node found))

pub returns-clause-allotment : goal.returns-clause-allotment
returns-clause-allotment c =
    let net = c.args.net.now in
    let arcs = net.arcs.items in
    let a = c.args.allotment.now in
    let place = c.args.place in
    let e = c.push_along.ensures in
    let p = c.push.ensures in
    let pushed = c.push.new.self in
    let at_head : far arcs (2 * place) ≡ c.args.search.now.from = head_of arcs place ∙ sym c.requires.ends.0 in
    let round = round_is_flow arcs a.flow.items c.push_along.new.allotment.flow.items pushed.flow.items c.near-tail.result c.args.search.now.from c.index.result.now.lots (2 * place) c.requires.allotment.is_flow e.brought (sym c.near-tail.ensures.is) at_head p.pushes in
    let floors : pushed.floors ≡ a.floors = p.same.0 ∙ e.same.0 in
    let floor = c.index-2.result.now in
    let inside : place < length pushed.floors.items = omega (arith, ap (λ f. length f.items) floors, c.requires.allotment.floors, c.requires.place.0) in
    let m = c.measure.ensures in
    let now = c.measure.new.self in
    let raised : (k : ℕ) → k ≢ place → get_or (set pushed.floors.items place floor) k 0 ≡ get_or pushed.floors.items k 0 = λ k other. get_or-set_other pushed.floors.items place k floor 0 other in
    let flows : (k : ℕ) → k ≢ place → get_or pushed.flow.items k 0 ≡ get_or c.push_along.new.allotment.flow.items k 0 = λ k other. flow_stays arcs c.push_along.new.allotment.flow.items pushed.flow.items k (p.pushes.others (2 * k) (λ same. other (omega (arith, same)))) in
    let at : (k : ℕ) → get_or now.floors.items k 0 ≡ get_or (set pushed.floors.items place floor) k 0 = λ k. ap (λ f. get_or f.items k 0) m.same.1 in
    round_ends arcs (length net.first.items) net.is_network.joins (omega (arith, net.is_network.ends)) a now c.requires.allotment place
    (subst (λ f. IsFlow arcs f.items) (sym m.same.0) round.0) (ap (λ f. value_of arcs f.items) m.same.0 ∙ round.1)
    (subst (λ f. KeepsFloors a.floors.items f.items) (sym m.same.0) (subst (λ f. KeepsFloors f.items pushed.flow.items) floors p.keeps))
    (at place ∙ get_or-set_same pushed.floors.items place floor 0 inside ∙ c.index-2.ensures ∙ get_or_default pushed.flow.items place floor 0 (omega (arith, p.pushes.within.all, c.requires.place.0)) ∙ ap (λ f. get_or f.items place 0) (sym m.same.0))
    (λ k other. at k ∙ raised k other ∙ ap (λ f. get_or f.items k 0) floors)
    (ap (λ f. length f.items) m.same.1 ∙ length-set pushed.floors.items place floor ∙ ap (λ f. length f.items) floors) (m.same.2 ∙ p.same.1 ∙ e.same.1)
    (measured arcs c.push_along.new.allotment _ now place e.rooms flows (λ k other. raised k other ∙ ap (λ f. get_or f.items k 0) p.same.0) p.same.2 m.here m.others m.size)

pub returns-clause-within : goal.returns-clause-within
returns-clause-within c =
    let arcs = c.args.net.now.arcs.items in
    let place = c.args.place in
    let marks = c.args.search.now.marks.items in
    let node = c.near-tail.result in
    let mark : c.index.result.now ≡ mark_at marks node = c.index.ensures ∙ get_or_default marks node c.index.result.now no_mark (omega (arith, c.requires.places.marks, c.near-tail.ensures.within)) in
    let found = subst (λ n. 0 < level_at marks n) (sym (c.near-tail.ensures.is ∙ tail_of arcs place)) c.requires.ends.1 in
    let along = carries c.push_along.new.allotment.flow.items c.push.new.self.flow.items place c.index.result.now.lots c.push.ensures.along in
    omega (arith, ap (λ f. get_or f.items place 0) c.measure.ensures.same.0, along, c.push_along.ensures.floor place c.requires.place.1 (sym c.requires.ends.0), ap (λ (m : Mark). m.lots) mark, c.requires.tree.most_lots node found)
