use Rattle.gu_book.proofs.Words.{List, subst, sym, Row}
use Rattle.gu_book.specs.GivenUp.{AreGivenUp}
use Rattle.gu_book.proofs.GivenUpLemmas.{given-next}
use Rattle.gu_book.proofs.totals.Totals.open.Goals as goal

pub invariant_of-self : goal.invariant_of-self
invariant_of-self c =
    let old = c.args.self.now in
    record { placed = subst (λ (rows : List Row). AreGivenUp old.trades rows old.given_up) (sym c.new_day.ensures) (given-next old.trades old.offers old.given_up old.placed) }
