use Rattle.std.proofs.Common.{◌∙◌, Some, sym, ap}
use Rattle.std.specs.Option.{option_map}
use Rattle.gu_trades.specs.Terms.{terms_of}
use Rattle.gu_trades.proofs.ReportPlaces.{by-found, by-none, by-within}
use Rattle.gu_trades.proofs.trades.Trades.terms.Goals as goal

pub returns-then-at-eq0 : goal.returns-then-at-eq0
returns-then-at-eq0 c =
    ap (option_map terms_of) (sym (by-none c.args.self.now c.args.firm.now c.args.id.now c.last_by-at.result c.last_by-at.ensures.sound c.last_by-at.ensures.placed c.if-at-eq0.true))

pub kept-requires : goal.kept-requires
kept-requires c = rw c.self.view_is (by-within c.args.self.now c.args.firm.now c.args.id.now c.last_by-at.result c.last_by-at.ensures.sound c.last_by-at.ensures.placed c.if-at-eq0.false)

pub returns : goal.returns
returns c =
    ap Some c.terms.ensures
    ∙ ap (option_map terms_of) (sym (rw c.self.view_is at c.kept.ensures) ∙ sym (by-found c.args.self.now c.args.firm.now c.args.id.now c.last_by-at.result c.last_by-at.ensures.sound c.last_by-at.ensures.placed c.if-at-eq0.false))
