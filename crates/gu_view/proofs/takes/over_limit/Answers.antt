use Rattle.gu_view.proofs.Words.{arith, ◌≡◌, refl, length, nat_lt, lt-ltb, le-ltb, slice_get_read, lots_under, OverLimit, Room, found_here, found_later}
use Rattle.gu_view.proofs.takes.over_limit.Goals as goal

pub returns-then-room-taken_under : goal.returns-then-room-taken_under
returns-then-room-taken_under c lots are =
    let view = c.args.view.now in
    let r = c.room-item.result in
    let same = c.rooms-room-items.ensures.rooms in
    let inside = rw same at c.loop-place-test.true in
    let is = rw same at c.room-item.is in
    let under : c.taken_under.result ≡ lots_under view.offers r.key lots = rw (slice_get_read view.rooms (length view.rooms) c.loop-place.place r refl inside is) at (c.taken_under.ensures lots are) in
    found_here (λ (r : Room). nat_lt r.lots (lots_under view.offers r.key lots)) (λ (r : Room). OverLimit r.key) view.rooms c.loop-place.place r inside is (c.loop-place.invariant lots are) (lt-ltb r.lots (lots_under view.offers r.key lots) (omega arith))

pub loop-place-preserved : goal.loop-place-preserved
loop-place-preserved c lots are =
    let view = c.args.view.now in
    let r = c.room-item.result in
    let same = c.rooms-room-items.ensures.rooms in
    let inside = rw same at c.loop-place-test.true in
    let is = rw same at c.room-item.is in
    let under : c.taken_under.result ≡ lots_under view.offers r.key lots = rw (slice_get_read view.rooms (length view.rooms) c.loop-place.place r refl inside is) at (c.taken_under.ensures lots are) in
    found_later (λ (r : Room). nat_lt r.lots (lots_under view.offers r.key lots)) view.rooms c.loop-place.place r inside is (c.loop-place.invariant lots are) (le-ltb r.lots (lots_under view.offers r.key lots) (omega arith))
