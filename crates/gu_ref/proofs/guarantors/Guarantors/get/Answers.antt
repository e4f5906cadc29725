use Rattle.gu_ref.proofs.Words.{◌∙◌, ap, guarantor_for, same_firm, by_name}
use Rattle.gu_ref.proofs.Lookups.{lookup-by_key}
use Rattle.gu_ref.proofs.guarantors.Guarantors.get.Goals as goal

pub returns : goal.returns
returns c =
    c.copied.ensures ∙ c.get.ensures.value
    ∙ lookup-by_key same_firm (by_name (λ k. k.name)) (λ row. row.firm) c.args.firm c.self.inside.rows.entries c.self.invariant.named
    ∙ ap (λ rows. guarantor_for rows c.args.firm) c.self.view_is
