use Rattle.gu_ref.proofs.Words.{◌∙◌, ap, is_some, find}
use Rattle.gu_ref.proofs.Lookups.{lookup-by_key}
use Rattle.gu_ref.proofs.table.Table.contains.Goals as goal

pub returns : goal.returns
returns g c =
    let eq = g.R.Name.PartialEq.eq in
    c.contains_key.ensures
    ∙ ap is_some
    (lookup-by_key eq g.met.R.Name.Eq.laws g.R.Named.name c.args.name c.self.inside.rows.entries c.self.invariant
    ∙ ap (find (λ row. eq (g.R.Named.name row) c.args.name)) c.self.view_is)
