use Rattle.gu_view.proofs.Words.{◌≡◌, false, length, refl, sym, ap, ◌∙◌, list_all_at, list_all_more, slice_get_read, room_agrees}
use Rattle.gu_view.proofs.nesting.keys_agree.Goals as goal

pub agrees-requires : goal.agrees-requires
agrees-requires c =
    let view = c.args.view.now in
    let same = c.rooms-room-items.ensures.rooms in
    let inside = rw same at c.loop-place-test.true in
    let is = rw same at c.room-item.is in
    (rw (slice_get_read view.rooms (length view.rooms) c.loop-place.place c.room-item.result refl inside is) refl, inside)

pub returns-then-not-agrees : goal.returns-then-not-agrees
returns-then-not-agrees c =
    let view = c.args.view.now in
    let r = c.room-item.result in
    let same = c.rooms-room-items.ensures.rooms in
    let inside = rw same at c.loop-place-test.true in
    let is = rw same at c.room-item.is in
    let told = rw (slice_get_read view.rooms (length view.rooms) c.loop-place.place r refl inside is) at c.agrees.ensures in
    let miss : room_agrees view.offers r ≡ false = sym told ∙ c.if-not-agrees.true in
    sym (list_all_at (room_agrees view.offers) view.rooms c.loop-place.place r inside (rw is at miss))

pub loop-place-preserved : goal.loop-place-preserved
loop-place-preserved c =
    let view = c.args.view.now in
    let r = c.room-item.result in
    let same = c.rooms-room-items.ensures.rooms in
    let inside = rw same at c.loop-place-test.true in
    let is = rw same at c.room-item.is in
    let told = rw (slice_get_read view.rooms (length view.rooms) c.loop-place.place r refl inside is) at c.agrees.ensures in
    let hit = sym told ∙ c.if-not-agrees.false in
    list_all_more (room_agrees view.offers) view.rooms c.loop-place.place r inside ∙ rw (c.loop-place.invariant, sym (ap (room_agrees view.offers) is) ∙ hit) refl
