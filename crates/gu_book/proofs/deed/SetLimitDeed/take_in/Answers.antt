use Rattle.gu_book.proofs.Words.{subst, sym, on_ok_weaker, TakesIn}
use Rattle.gu_book.proofs.TakenIn.{limit-taken}
use Rattle.gu_book.proofs.deed.SetLimitDeed.take_in.Goals as goal

pub returns-clause-taken : goal.returns-clause-taken
returns-clause-taken c =
    let old = c.args.totals.now in
    let new = c.set_limit.new.self in
    let at = c.args.self.now in
    let e = c.set_limit.ensures in
    on_ok_weaker c.set_limit.result
    (λ limits reference command is.
    subst (TakesIn reference old new) (sym is)
    (limit-taken reference old new at e.entries.today e.entries.trades e.entries.give_ups e.offers e.positions limits))
    e.limits
