use Rattle.gu_ref.proofs.Words.{◌∙◌, ap, pair_of, agreement_for, by_names}
use Rattle.gu_ref.proofs.Lookups.{lookup-by_key}
use Rattle.gu_ref.proofs.agreements.Agreements.between.Goals as goal

pub returns : goal.returns
returns c =
    c.copied.ensures ∙ c.get.ensures.value
    ∙ lookup-by_key _ (by_names (λ pair. pair.executing.name) (λ pair. pair.account.name)) pair_of (record { executing = c.args.executing; account = c.args.account }) c.self.inside.pairs.entries c.self.invariant.paired
    ∙ ap (λ rows. agreement_for rows c.args.executing c.args.account) (c.self.invariant.alike ∙ c.self.view_is)
