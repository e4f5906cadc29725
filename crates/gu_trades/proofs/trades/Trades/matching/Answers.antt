use Rattle.std.proofs.Common.{◌∙◌}
use Rattle.gu_trades.proofs.ReportPlaces.{matching-is}
use Rattle.gu_trades.proofs.trades.Trades.matching.Goals as goal

pub returns : goal.returns
returns c = c.behind.ensures ∙ matching-is c.args.self.now c.args.match_id.now c.last_two-last.result.0 c.last_two-last.ensures.placed.last_is
