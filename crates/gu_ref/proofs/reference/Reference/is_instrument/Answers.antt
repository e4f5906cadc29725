use Rattle.gu_ref.proofs.Words.{◌∙◌, ap, same_symbol, Tables, is_some-find}
use Rattle.gu_ref.specs.Reference.{is_instrument}
use Rattle.gu_ref.proofs.reference.Reference.is_instrument.Goals as goal

pub returns : goal.returns
returns c =
    c.contains.ensures
    ∙ is_some-find (λ i. same_symbol i.symbol c.args.symbol) c.self.inside.instruments
    ∙ ap (λ (tables : Tables). is_instrument tables c.args.symbol) c.self.view_is
