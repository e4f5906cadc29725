use Rattle.gu_flow.proofs.Words.{arith, length_push}
use Rattle.gu_flow.proofs.ArcLists.{laid_more, arcs_join, arcs_fit}
use Rattle.gu_flow.proofs.layout.lay_out.Goals as goal

pub loop-place-preserved : goal.loop-place-preserved
loop-place-preserved c =
    let h = c.loop-place.invariant in
    let arcs = c.loop-place.arcs.items in
    rw c.in_ok-push.ensures.items (record { so_far = omega (arith, length_push arcs c.arc_of.result); laid = laid_more c.args.view.now arcs c.arc_of.result c.loop-place.place h.laid h.so_far c.arc_of.ensures })

pub returns-clause-joins : goal.returns-clause-joins
returns-clause-joins c = arcs_join c.args.view.now c.loop-place.arcs.items c.rooms-rooms.ensures.sound (rw (← c.rooms-rooms.ensures.rooms) (omega arith)) c.loop-place.invariant.laid

pub returns-clause-fits : goal.returns-clause-fits
returns-clause-fits c = arcs_fit c.args.view.now c.loop-place.arcs.items c.rooms-rooms.ensures.sound (rw (← c.rooms-rooms.ensures.rooms) (omega arith)) c.loop-place.invariant.laid
