use Rattle.gu_book.proofs.Words.{◌≡◌, ◌∙◌, arith, refl, subst, take_all, All-more, room_in, Room, HasRooms}
use Rattle.gu_book.proofs.current.shows_rooms.Goals as goal

pub loop-room-init : goal.loop-room-init
loop-room-init c = λ k d none. absurd (omega (arith, none))

pub loop-room-preserved : goal.loop-room-preserved
loop-room-preserved c =
    let HasRoom : Room → Type 0 = λ room. room.lots ≡ room_in c.args.limits.now c.args.group.now room.key in
    let here : HasRoom c.room-item.result = c.if-room.false ∙ c.room.ensures in
    All-more HasRoom c.args.rooms.now c.loop-room.room-index c.room-item.result c.loop-room-test.true c.loop-room.invariant (subst HasRoom c.room-item.is here)

pub returns : goal.returns
returns c = (λ shown. subst (HasRooms c.args.limits.now c.args.group.now) (take_all c.loop-room.room-index c.args.rooms.now c.loop-room-test.false) c.loop-room.invariant, λ whole. refl)
