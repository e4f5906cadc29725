use Rattle.std.proofs.Common.{◌≤◌, ◌<◌, length, arith}
use Rattle.gu_keeping.proofs.Made.{length-take_within, place_added}
use Rattle.gu_keeping.proofs.batch.Batch.of.Goals as goal

pub add-requires : goal.add-requires
add-requires c =
    let entries = c.args.entries.now in
    let place = c.loop-place.place in
    let within : place ≤ length entries = omega (arith, c.loop-place-test.true, c.min-most.ensures) in
    let here : place < length entries = omega (arith, c.loop-place-test.true, c.min-most.ensures) in
    omega (arith, c.loop-place.invariant.link.count_is, length-take_within place entries within, here, c.requires)

pub loop-place-preserved : goal.loop-place-preserved
loop-place-preserved c =
    let entries = c.args.entries.now in
    let origins = c.args.origins.now in
    let place = c.loop-place.place in
    place_added c.args.chain origins entries place c.index-origins-place.result c.index-entries-place.result c.loop-place.batch c.add.new.self
    (omega (arith, c.loop-place-test.true, c.min-most.ensures))
    (omega (arith, c.loop-place-test.true, c.min-most.ensures))
    c.index-origins-place.is c.index-entries-place.is c.loop-place.invariant
    (c.in_ok-add.ensures.added c.if-not-branch.false)
