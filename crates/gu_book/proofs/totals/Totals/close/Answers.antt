use Rattle.gu_book.proofs.Words.{List, subst, sym, Row}
use Rattle.gu_book.specs.GivenUp.{AreGivenUp}
use Rattle.gu_book.proofs.GivenUpLemmas.{closed-held, given-closed, number-within}
use Rattle.gu_book.proofs.totals.Totals.close.Goals as goal

pub report-report-requires : goal.report-report-requires
report-report-requires c = let old = c.args.self.now in number-within old.trades old.offers old.given_up old.placed c.args.number c.requires

pub take-requires : goal.take-requires
take-requires c =
    let old = c.args.self.now in
    closed-held old.trades old.offers old.given_up old.placed c.rules.ensures.sound.once c.rules-2.ensures.sound c.args.number c.report-report.result c.requires c.report-report.ensures c.left-left.result c.left-left.ensures

pub invariant_of-self : goal.invariant_of-self
invariant_of-self c =
    let old = c.args.self.now in
    record {
      placed = subst (λ (rows : List Row). AreGivenUp old.trades rows c.take.new.self) (sym c.close.ensures)
          (given-closed old.trades old.offers old.given_up old.placed c.rules.ensures.sound.once c.rules-2.ensures.sound c.args.number c.report-report.result c.requires c.report-report.ensures c.left-left.result c.left-left.ensures
          c.take.new.self c.take.ensures.report_of c.take.ensures.lots);
    }
