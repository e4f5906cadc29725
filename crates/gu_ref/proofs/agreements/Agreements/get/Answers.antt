use Rattle.gu_ref.proofs.Words.{◌∙◌, ap, agreement_in, same_agreement, by_name}
use Rattle.gu_ref.proofs.Lookups.{lookup-by_key}
use Rattle.gu_ref.proofs.agreements.Agreements.get.Goals as goal

pub returns : goal.returns
returns c =
    c.copied.ensures ∙ c.get.ensures.value
    ∙ lookup-by_key same_agreement (by_name (λ k. k.name)) (λ row. row.id) c.args.id c.self.inside.rows.entries c.self.invariant.named
    ∙ ap (λ rows. agreement_in rows c.args.id) c.self.view_is
