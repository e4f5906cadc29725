use Rattle.gu_trades.proofs.ReportPlaces.{by-has}
use Rattle.gu_trades.proofs.trades.Trades.has.Goals as goal

pub returns : goal.returns
returns c =
    by-has c.args.self.now c.args.firm.now c.args.id.now c.last_by.result c.last_by.ensures.sound c.last_by.ensures.placed
