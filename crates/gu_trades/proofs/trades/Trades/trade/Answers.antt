use Rattle.std.proofs.Common.{◌∙◌, Some, ap, sym}
use Rattle.gu_trades.proofs.ReportPlaces.{first-within, with-none, with-one, with-two, with-within}
use Rattle.gu_trades.proofs.trades.Trades.trade.Goals as goal

pub returns-then-last-eq0 : goal.returns-then-last-eq0
returns-then-last-eq0 c = sym (with-none c.args.self.now c.args.match_id c.last_two-last.result.0 c.last_two-last.ensures.placed.last_is c.if-last-eq0.true)

pub kept-requires : goal.kept-requires
kept-requires c = rw c.self.view_is (with-within c.args.self.now c.args.match_id c.last_two-last.result.0 c.last_two-last.ensures.placed.last_is c.if-last-eq0.false)

pub kept-requires-2 : goal.kept-requires-2
kept-requires-2 c = rw c.self.view_is (first-within c.args.self.now c.args.match_id c.last_two-last.result.0 c.last_two-last.result.1 c.last_two-last.ensures.placed c.if-first-eq0.false)

pub returns-then-first-eq0 : goal.returns-then-first-eq0
returns-then-first-eq0 c =
    sym (with-one c.args.self.now c.args.match_id c.last_two-last.result.0 c.last_two-last.result.1 c.last_two-last.ensures.placed c.if-last-eq0.false c.report-later.result
    (rw c.self.view_is at c.kept.ensures ∙ ap Some (sym c.report-later.ensures)) c.if-first-eq0.true)

pub returns : goal.returns
returns c =
    sym (with-two c.args.self.now c.args.match_id c.last_two-last.result.0 c.last_two-last.result.1 c.last_two-last.ensures.placed c.last_two-last.ensures.sound c.if-first-eq0.false c.report.result c.report-later.result
    (rw c.self.view_is at c.kept-2.ensures ∙ ap Some (sym c.report.ensures)) (rw c.self.view_is at c.kept.ensures ∙ ap Some (sym c.report-later.ensures)))
