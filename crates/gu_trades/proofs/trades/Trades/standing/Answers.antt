use Rattle.std.proofs.Common.{◌∙◌, sym, ap, ◌-◌, slice_get, Some}
use Rattle.std.specs.Option.{option_map}
use Rattle.gu_trades.specs.Counterparts.{standing_in}
use Rattle.gu_trades.specs.Terms.{terms_of}
use Rattle.gu_trades.proofs.ReportPlaces.{by-found, by-none, by-within, standing-is}
use Rattle.gu_trades.proofs.trades.Trades.standing.Goals as goal

pub returns-then-at-eq0-clause-standing : goal.returns-then-at-eq0-clause-standing
returns-then-at-eq0-clause-standing c =
    ap (option_map (standing_in c.args.self.now)) (sym (by-none c.args.self.now c.args.firm.now c.args.id.now c.last_by-at.result c.last_by-at.ensures.sound c.last_by-at.ensures.placed c.if-at-eq0.true))

pub kept-requires : goal.kept-requires
kept-requires c = rw c.self.view_is (by-within c.args.self.now c.args.firm.now c.args.id.now c.last_by-at.result c.last_by-at.ensures.sound c.last_by-at.ensures.placed c.if-at-eq0.false)

pub is_of_trade-requires : goal.is_of_trade-requires
is_of_trade-requires c = (by-within c.args.self.now c.args.firm.now c.args.id.now c.last_by-at.result c.last_by-at.ensures.sound c.last_by-at.ensures.placed c.if-at-eq0.false)

pub returns-clause-standing : goal.returns-clause-standing
returns-clause-standing c =
    let own = ap (option_map terms_of) (rw c.self.view_is at c.kept.ensures) ∙ ap Some (sym c.terms.ensures) in
    sym (standing-is c.args.self.now (slice_get c.args.self.now (c.last_by-at.result - 1)) c.terms.result c.is_of_trade.result own c.is_of_trade.ensures)
    ∙ ap (option_map (standing_in c.args.self.now))
    (sym (by-found c.args.self.now c.args.firm.now c.args.id.now c.last_by-at.result c.last_by-at.ensures.sound c.last_by-at.ensures.placed c.if-at-eq0.false))

pub returns-clause-at : goal.returns-clause-at
returns-clause-at c =
    ap (slice_get c.args.self.now) c.known.ensures
    ∙ sym (by-found c.args.self.now c.args.firm.now c.args.id.now c.last_by-at.result c.last_by-at.ensures.sound c.last_by-at.ensures.placed c.if-at-eq0.false)
