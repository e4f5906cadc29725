use Rattle.std.proofs.Common.{arith}
use Rattle.gu_view.proofs.TakesLemmas.{under_fits, under_is}
use Rattle.gu_view.proofs.takes.taken_under.Goals as goal

pub lots_at-requires-clause-fits : goal.lots_at-requires-clause-fits
lots_at-requires-clause-fits c =
    let part = under_fits c.args.view.now.offers c.args.view.now.rooms c.args.taken.now c.members.result.now c.args.room c.requires.room c.requires.size c.members.ensures.members in
    omega (arith, part, c.requires.fits)

pub returns : goal.returns
returns c lots are =
    under_is c.args.view.now.offers c.args.taken.now c.members.result.now _ c.lots_at.result lots are c.members.ensures.members c.lots_at.ensures
