use Rattle.gu_flow.proofs.Words.{arith, ◌∙◌, room_at}
use Rattle.gu_flow.proofs.RoomPlaces.{lots_of_members, lots_fit, own_room, agreement_capacity}
use Rattle.gu_flow.proofs.layout.capacity_of.Goals as goal

pub lots_at-requires-clause-fits : goal.lots_at-requires-clause-fits
lots_at-requires-clause-fits c = rw c.offers.ensures.offers (
    let is = lots_of_members c.args.view.now c.args.place c.members.result.now c.requires c.members.ensures.members in
    let fits = lots_fit c.args.view.now c.offers.ensures.sound (room_at c.args.view.now.rooms c.args.place).key in
    omega arith)

pub returns-in-Agr-clause-capacity : goal.returns-in-Agr-clause-capacity
returns-in-Agr-clause-capacity c =
    let is = rw c.rooms.ensures.rooms at c.index-rooms-place.is in
    let lots = rw c.offers.ensures.offers at c.lots_at.ensures in
    agreement_capacity c.args.view.now.offers c.index-rooms-place.result (room_at c.args.view.now.rooms c.args.place) c.in-Agr.field-0 c.lots_at.result c.min.result
    (own_room c.args.view.now.rooms c.args.place c.index-rooms-place.result c.requires is) c.in-Agr.is
    (lots ∙ lots_of_members c.args.view.now c.args.place c.members.result.now c.requires c.members.ensures.members) c.min.ensures
