use Rattle.gu_trades.specs.Counterparts.{standing_in}
use Rattle.gu_book.proofs.GivenUpLemmas.{names-found}
use Rattle.gu_book.proofs.answering.given_up.Goals as goal

pub returns-clause-number : goal.returns-clause-number
returns-clause-number c =
    let found = c.in_ok-number in
    names-found (standing_in c.args.totals.now.trades) c.args.totals.now.trades found.number c.args.firm.now c.args.report.now found.standing found.ensures.at found.ensures.standing
