use Rattle.std.proofs.Common.{◌∙◌, Some, sym, ap, is_some}
use Rattle.gu_terms.proofs.Found.{is_some-find}
use Rattle.gu_trades.specs.Reports.{is_by}
use Rattle.gu_trades.proofs.ReportPlaces.{by-found, by-none, by-within}
use Rattle.gu_trades.proofs.trades.Trades.side_of.Goals as goal

pub returns-then-at-eq0-clause-found : goal.returns-then-at-eq0-clause-found
returns-then-at-eq0-clause-found c =
    sym (by-none c.args.self.now c.args.firm c.args.id c.last_by-at.result c.last_by-at.ensures.sound c.last_by-at.ensures.placed c.if-at-eq0.true)

pub returns-then-at-eq0-clause-known : goal.returns-then-at-eq0-clause-known
returns-then-at-eq0-clause-known c = ap is_some (returns-then-at-eq0-clause-found c) ∙ is_some-find (is_by c.args.firm c.args.id) c.args.self.now

pub kept-requires : goal.kept-requires
kept-requires c = rw c.self.view_is (by-within c.args.self.now c.args.firm c.args.id c.last_by-at.result c.last_by-at.ensures.sound c.last_by-at.ensures.placed c.if-at-eq0.false)

pub returns-clause-found : goal.returns-clause-found
returns-clause-found c =
    ap Some c.report.ensures ∙ sym (rw c.self.view_is at c.kept.ensures) ∙ sym (by-found c.args.self.now c.args.firm c.args.id c.last_by-at.result c.last_by-at.ensures.sound c.last_by-at.ensures.placed c.if-at-eq0.false)

pub returns-clause-known : goal.returns-clause-known
returns-clause-known c = ap is_some (returns-clause-found c) ∙ is_some-find (is_by c.args.firm c.args.id) c.args.self.now
