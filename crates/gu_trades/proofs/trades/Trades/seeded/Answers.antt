use Rattle.gu_trades.proofs.ReportPlaces.{kept-empty}
use Rattle.gu_trades.proofs.trades.Trades.seeded.Goals as goal

pub invariant_of-result : goal.invariant_of-result
invariant_of-result c = kept-empty _ c.new.ensures c.new-2.ensures c.new-3.ensures
