use Rattle.std.proofs.Common.{◌∙◌, ◌-◌, sym, arith}
use Rattle.gu_trades.specs.Kept.{is_by_at}
use Rattle.gu_trades.specs.Reports.{is_by}
use Rattle.gu_trades.proofs.LastPlaces.{at-is, walk-back}
use Rattle.gu_trades.proofs.ReportPlaces.{found-here}
use Rattle.gu_trades.proofs.Walks.{by-on, by-start}
use Rattle.gu_trades.proofs.trades.Trades.last_by.Goals as goal

pub loop-at-init : goal.loop-at-init
loop-at-init c =
    let begun = by-start c.self.inside c.args.self.now c.self.invariant c.self.view_is c.args.firm.now c.args.id.now c.id_number.result c.last-at.result c.id_number.ensures c.last-at.ensures in
    record { left = begun.0; within = begun.1; number = begun.2 }

pub returns-then-is_by-clause-placed : goal.returns-then-is_by-clause-placed
returns-then-is_by-clause-placed c =
    let hit = at-is (is_by c.args.firm.now c.args.id.now) c.args.self.now (c.loop-at.at - 1) c.kept.result (rw c.self.view_is at c.kept.ensures) ∙ sym c.is_by.ensures ∙ c.if-is_by.true in
    sym (c.loop-at.invariant.left ∙ found-here (is_by_at c.args.self.now c.args.firm.now c.args.id.now) c.loop-at.at c.loop-at-test.true hit)

pub loop-at-smaller : goal.loop-at-smaller
loop-at-smaller c =
    (by-on c.self.inside c.args.self.now c.self.invariant c.self.view_is c.args.firm.now c.args.id.now c.loop-at.at c.before-at.result c.loop-at-test.true (c.loop-at.invariant.number c.loop-at-test.true) c.before-at.ensures).1

pub loop-at-preserved : goal.loop-at-preserved
loop-at-preserved c =
    let miss = at-is (is_by c.args.firm.now c.args.id.now) c.args.self.now (c.loop-at.at - 1) c.kept.result (rw c.self.view_is at c.kept.ensures) ∙ sym c.is_by.ensures ∙ c.if-is_by.false in
    let on = by-on c.self.inside c.args.self.now c.self.invariant c.self.view_is c.args.firm.now c.args.id.now c.loop-at.at c.before-at.result c.loop-at-test.true (c.loop-at.invariant.number c.loop-at-test.true) c.before-at.ensures in
    let within = c.loop-at.invariant.within in
    let smaller = on.1 in
    record {
      left = c.loop-at.invariant.left ∙ walk-back (is_by c.args.firm.now c.args.id.now) c.args.self.now c.loop-at.at c.before-at.result c.loop-at-test.true miss on.0;
      within = omega arith;
      number = on.2;
    }
