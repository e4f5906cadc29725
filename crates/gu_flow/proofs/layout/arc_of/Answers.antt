use Rattle.gu_flow.proofs.Words.{◌+◌, ◌∙◌, ap, get_or, refl, Room, step_of, node_at, offer_at, way_of}
use Rattle.gu_flow.proofs.RoomPlaces.{first_offer, own_room, own_way}
use Rattle.gu_flow.proofs.layout.arc_of.Goals as goal

pub bounds-members-0 : goal.bounds-members-0
bounds-members-0 c = (first_offer c.args.view.now c.capacity_of-capacity.ensures.sound c.args.place c.members.result.now c.requires c.members.ensures.members).0

pub returns : goal.returns
returns c =
    let view = c.args.view.now in
    let number = get_or c.members.result.now 0 0 in
    let first = (first_offer view c.capacity_of-capacity.ensures.sound c.args.place c.members.result.now c.requires c.members.ensures.members).1 in
    let way = own_way view number c.places-way.result.now first.within c.places-way.ensures.places in
    let room = own_room view.rooms c.args.place c.index-rooms-place.result c.requires (rw c.rooms.ensures.rooms at c.index-rooms-place.is) in
    let steps = c.step_of-steps.ensures ∙ ap (λ (r : Room). step_of r.key) room in
    record {
      offer = offer_at view.offers number;
      known = record { place = number; within = first.within; is = refl };
      goes_by = first.goes_by;
      from = c.node_at.ensures ∙ ap (λ way. node_at way c.step_of-steps.result) way ∙ ap (node_at (way_of view.rooms (offer_at view.offers number))) steps;
      to = c.node_at-2.ensures ∙ ap (λ way. node_at way (c.step_of-steps.result + 1)) way ∙ ap (λ n. node_at (way_of view.rooms (offer_at view.offers number)) (n + 1)) steps;
      capacity = c.capacity_of-capacity.ensures.capacity;
    }
