use Rattle.gu_offers.proofs.Words.{ap, refl, closed, given_in, GivenUp}
use Rattle.gu_offers.proofs.KeptIds.{is_written, there_in}
use Rattle.gu_offers.proofs.Written.{one}
use Rattle.gu_offers.proofs.kept_rows.close_of.Goals as goal

pub returns-clause-written : goal.returns-clause-written
returns-clause-written c day = is_written c.rows.inside.ids.items c.rows.inside.list.items c.args.rows.now c.args.place c.index_mut-given.result.now c.rows.view_is c.requires c.index_mut-given.ensures.value _ day closed refl (λ before. before)

pub returns-clause-group : goal.returns-clause-group
returns-clause-group c = λ g at.
    ap (λ (x : GivenUp). x.offer.group) (one c.args.rows.now c.args.place (given_in c.rows.inside.ids.items c.index_mut-given.result.now) g (there_in c.rows.inside.ids.items c.rows.inside.list.items c.args.rows.now c.args.place c.index_mut-given.result.now c.rows.view_is c.requires c.index_mut-given.ensures.value) at)
