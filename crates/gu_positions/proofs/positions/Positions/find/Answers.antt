use Rattle.gu_positions.proofs.Words.{◌∙◌, ap, is_some, sym, is_numbered, has_row}
use Rattle.gu_positions.proofs.KeptLots.{has_row-lookup}
use Rattle.gu_positions.proofs.RowNumbers.{numbered-kept, row_of-numbered}
use Rattle.gu_positions.proofs.positions.Positions.find.Goals as goal

pub returns-in_err-number-clause-there : goal.returns-in_err-number-clause-there
returns-in_err-number-clause-there c =
    ap is_some c.from_residual.ensures ∙ c.in_err-number.ensures.there ∙ sym (has_row-lookup c.args.account.now c.args.symbol.now c.self.inside.rows.entries)
    ∙ ap (λ rows. has_row rows c.args.account.now c.args.symbol.now) c.self.view_is

pub returns-clause-there : goal.returns-clause-there
returns-clause-there c =
    c.in_ok-number.ensures.there ∙ sym (has_row-lookup c.args.account.now c.args.symbol.now c.self.inside.rows.entries)
    ∙ ap (λ rows. has_row rows c.args.account.now c.args.symbol.now) c.self.view_is

pub returns-clause-row : goal.returns-clause-row
returns-clause-row c =
    row_of-numbered c.args.account.now c.args.symbol.now c.args.self.now (record { number = c.in_ok-number.number })
    (ap (λ rows. is_numbered rows c.args.account.now c.args.symbol.now c.in_ok-number.number) (sym c.self.view_is)
    ∙ numbered-kept c.args.account.now c.args.symbol.now c.self.inside.rows.entries c.in_ok-number.number c.in_ok-number.ensures.at.value c.in_ok-number.ensures.at.here)
