use Rattle.gu_ref.proofs.Words.{◌∙◌, ap, find}
use Rattle.gu_ref.proofs.Lookups.{lookup-by_key}
use Rattle.gu_ref.proofs.table.Table.get.Goals as goal

pub returns : goal.returns
returns g c =
    let eq = g.R.Name.PartialEq.eq in
    c.copied.ensures ∙ c.get.ensures.value
    ∙ lookup-by_key eq g.met.R.Name.Eq.laws g.R.Named.name c.args.name c.self.inside.rows.entries c.self.invariant
    ∙ ap (find (λ row. eq (g.R.Named.name row) c.args.name)) c.self.view_is
