use Rattle.gu_flow.proofs.Words.{◌≡◌, ◌<◌, ◌+◌, ◌*◌, ◌/◌, ◌∙◌, ap, arith, min, length, get_or, get_or-set_same, get_or_default, ViewOffer, arc_at, no_offer, offer_at}
use Rattle.gu_flow.proofs.Giving.{floor_within, lots_small, goal_is, gives_one}
use Rattle.gu_flow.proofs.RoomPlaces.{agreement_read}
use Rattle.gu_flow.proofs.oldest.give_each.Goals as goal

pub overflow_add-goals : goal.overflow_add-goals
overflow_add-goals c =
    let view = c.args.view.now in
    let net = c.args.net.now in
    let l = c.loop-number in
    let i = l.number in
    let offers = c.offers-offer-items.ensures.offers in
    let inside = rw offers at c.loop-number-test.true in
    let o = c.offer-item.result in
    let is : o ≡ offer_at view.offers i = rw offers at c.offer-item.is ∙ get_or_default view.offers i o no_offer inside in
    let place = c.agreement_place-place.result in
    let place_in : place < length net.arcs.items = omega (arith, c.agreement_place-place.ensures.within, c.requires.arcs.all) in
    let g = goal_is view net.arcs.items (length net.first.items) c.args.allotment.now.flow.items l.allotment l.goals i place inside (agreement_read view i place inside c.agreement_place-place.ensures.place) place_in l.invariant.giving in
    omega (arith, g, ap (λ (o : ViewOffer). o.lots) is, lots_small view c.offers-offer-items.ensures.sound (i + 1) place)

pub raise_arc-requires-clause-place : goal.raise_arc-requires-clause-place
raise_arc-requires-clause-place c =
    let view = c.args.view.now in
    let net = c.args.net.now in
    let l = c.loop-number in
    let i = l.number in
    let offers = c.offers-offer-items.ensures.offers in
    let inside = rw offers at c.loop-number-test.true in
    let o = c.offer-item.result in
    let is : o ≡ offer_at view.offers i = rw offers at c.offer-item.is ∙ get_or_default view.offers i o no_offer inside in
    let lots_is : o.lots ≡ (offer_at view.offers i).lots = ap (λ (o : ViewOffer). o.lots) is in
    let place = c.agreement_place-place.result in
    let place_in : place < length net.arcs.items = omega (arith, c.agreement_place-place.ensures.within, c.requires.arcs.all) in
    let half : 2 * place / 2 ≡ place = omega arith in
    let written = get_or-set_same l.goals place (get_or l.goals place 0 + o.lots) 0 (omega (arith, l.invariant.giving.goals_size, place_in)) in
    let goal_now : c.min-goal.result ≡ min (get_or l.goals place 0 + (offer_at view.offers i).lots) (arc_at net.arcs.items place).capacity =
    c.min-goal.ensures ∙ omega (arith, written, lots_is, c.capacity.ensures, ap (λ k. (arc_at net.arcs.items k).capacity) half) in
    (place_in, floor_within view net.arcs.items (length net.first.items) c.args.allotment.now.flow.items l.allotment l.goals i place inside (agreement_read view i place inside c.agreement_place-place.ensures.place) place_in l.invariant.giving c.min-goal.result goal_now)

pub loop-number-preserved : goal.loop-number-preserved
loop-number-preserved c =
    let view = c.args.view.now in
    let net = c.args.net.now in
    let l = c.loop-number in
    let i = l.number in
    let offers = c.offers-offer-items.ensures.offers in
    let inside = rw offers at c.loop-number-test.true in
    let o = c.offer-item.result in
    let is : o ≡ offer_at view.offers i = rw offers at c.offer-item.is ∙ get_or_default view.offers i o no_offer inside in
    let lots_is : o.lots ≡ (offer_at view.offers i).lots = ap (λ (o : ViewOffer). o.lots) is in
    let place = c.agreement_place-place.result in
    let e = c.raise_arc.ensures in
    let place_in : place < length net.arcs.items = omega (arith, c.agreement_place-place.ensures.within, c.requires.arcs.all) in
    let half : 2 * place / 2 ≡ place = omega arith in
    let written = get_or-set_same l.goals place (get_or l.goals place 0 + o.lots) 0 (omega (arith, l.invariant.giving.goals_size, place_in)) in
    let goal_now : c.min-goal.result ≡ min (get_or l.goals place 0 + (offer_at view.offers i).lots) (arc_at net.arcs.items place).capacity =
    c.min-goal.ensures ∙ omega (arith, written, lots_is, c.capacity.ensures, ap (λ k. (arc_at net.arcs.items k).capacity) half) in
    record {
      giving = rw lots_is
          (gives_one view net.arcs.items (length net.first.items) c.args.allotment.now.flow.items l.allotment l.goals i place inside (agreement_read view i place inside c.agreement_place-place.ensures.place) place_in l.invariant.giving c.min-goal.result goal_now
          c.raise_arc.new.allotment e.allotment e.value e.here e.others e.rises e.most);
      ready = e.ready;
    }
