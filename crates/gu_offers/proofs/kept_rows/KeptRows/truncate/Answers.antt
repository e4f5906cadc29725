use Rattle.gu_offers.proofs.Words.{◌∙◌, ap, map, sym, take, take-map, given_in}
use Rattle.gu_offers.proofs.kept_rows.KeptRows.truncate.Goals as goal

pub returns : goal.returns
returns c =
    ap (map (given_in c.self.inside.ids.items)) c.truncate.ensures.items ∙ sym (take-map (given_in c.self.inside.ids.items) c.args.count c.self.inside.list.items)
    ∙ ap (take c.args.count) c.self.view_is
