use Rattle.gu_book.proofs.Words.{◌∙◌}
use Rattle.gu_book.proofs.GivenUpLemmas.{held-named}
use Rattle.gu_book.proofs.totals.Totals.lots_given_up.Goals as goal

pub returns : goal.returns
returns c firm id names =
    let totals = c.args.self.now in
    c.lots_of.ensures ∙ totals.placed.held c.args.report ∙ held-named totals.trades totals.offers c.args.report firm id names
