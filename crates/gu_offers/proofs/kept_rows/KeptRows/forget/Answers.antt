use Rattle.gu_offers.proofs.Words.{◌∙◌, ap, map, forgotten, given_in}
use Rattle.gu_offers.proofs.KeptIds.{given_forgotten, within_forgotten}
use Rattle.gu_offers.proofs.kept_rows.KeptRows.forget.Goals as goal

pub invariant_of-self : goal.invariant_of-self
invariant_of-self c = rw c.forget.ensures (within_forgotten c.self.inside.ids.items c.self.inside.list.items c.self.invariant)

pub returns : goal.returns
returns c =
    ap (map (given_in c.self.inside.ids.items)) c.forget.ensures ∙ given_forgotten c.self.inside.ids.items c.self.inside.list.items
    ∙ ap (map forgotten) c.self.view_is
