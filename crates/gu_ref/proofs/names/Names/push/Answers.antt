use Rattle.gu_ref.proofs.Lookups.{inserted}
use Rattle.gu_ref.proofs.names.Names.push.Goals as goal

pub returns : goal.returns
returns g c = inserted g.N.PartialEq.eq g.met.N.Eq.laws c.self.inside.rows.keys c.args.self.now c.args.name _ c.self.view_is c.requires c.in_ok-insert.ensures.keys
