use Rattle.gu_flow.proofs.Words.{◌≡◌, ◌≤◌, ap, arith, length, length-take-le, offer_at, way_of}
use Rattle.gu_flow.proofs.DirectWays.{few, here, is_whole, places_are}
use Rattle.gu_flow.proofs.beginning.give_directly.Goals as goal

pub lead_back-requires-clause-room : goal.lead_back-requires-clause-room
lead_back-requires-clause-room c =
    let view = c.args.view.now in
    let i = c.args.offer in
    let places = places_are view i c.places-places.result.now c.requires.offer c.places-places.ensures.places in
    omega (arith, ap length places, few view c.places-places.ensures.sound c.requires.nested (offer_at view.offers i) (here view i c.requires.offer))

pub slice_bounds-way-end : goal.slice_bounds-way-end
slice_bounds-way-end c =
    let view = c.args.view.now in
    let i = c.args.offer in
    let places = places_are view i c.places-places.result.now c.requires.offer c.places-places.ensures.places in
    omega (arith, ap length places, few view c.places-places.ensures.sound c.requires.nested (offer_at view.offers i) (here view i c.requires.offer), c.lead_back.ensures.room)

pub slice_bounds-push_some-end : goal.slice_bounds-push_some-end
slice_bounds-push_some-end c =
    let view = c.args.view.now in
    let i = c.args.offer in
    let places = places_are view i c.places-places.result.now c.requires.offer c.places-places.ensures.places in
    let fits : length c.places-places.result.now ≤ length c.lead_back.new.way =
    omega (arith, ap length places, few view c.places-places.ensures.sound c.requires.nested (offer_at view.offers i) (here view i c.requires.offer), c.lead_back.ensures.room) in
    omega (arith, length-take-le (length c.places-places.result.now) c.lead_back.new.way fits)

pub push_some-requires-clause-whole : goal.push_some-requires-clause-whole
push_some-requires-clause-whole c =
    let view = c.args.view.now in
    let i = c.args.offer in
    let sound = c.places-places.ensures.sound in
    let o = here view i c.requires.offer in
    let places : c.places-places.result.now ≡ way_of view.rooms (offer_at view.offers i) = places_are view i c.places-places.result.now c.requires.offer c.places-places.ensures.places in
    let room : length (way_of view.rooms (offer_at view.offers i)) ≤ length c.lead_back.new.way =
    omega (arith, few view sound c.requires.nested (offer_at view.offers i) o, c.lead_back.ensures.room) in
    rw places (is_whole view sound c.requires.nested (offer_at view.offers i) o c.args.net.now.arcs.items c.requires.arcs c.lead_back.new.way room (rw places at c.lead_back.ensures.ends))
