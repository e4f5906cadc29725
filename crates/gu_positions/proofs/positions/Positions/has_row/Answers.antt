use Rattle.gu_positions.proofs.Words.{◌∙◌, sym, ap, has_row}
use Rattle.gu_positions.proofs.KeptLots.{has_row-lookup}
use Rattle.gu_positions.proofs.positions.Positions.has_row.Goals as goal

pub returns : goal.returns
returns c =
    c.contains_key.ensures ∙ sym (has_row-lookup c.args.account c.args.symbol c.self.inside.rows.entries)
    ∙ ap (λ rows. has_row rows c.args.account c.args.symbol) c.self.view_is
