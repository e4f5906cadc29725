use Rattle.gu_book.proofs.Words.{subst, sym, TakesIn}
use Rattle.gu_book.proofs.TakenIn.{opening-taken}
use Rattle.gu_book.proofs.deed.OpenDayDeed.take_in.Goals as goal

pub returns-clause-taken : goal.returns-clause-taken
returns-clause-taken c reference command is =
    let old = c.args.totals.now in
    let new = c.open.new.self in
    let e = c.open.ensures in
    subst (TakesIn reference old new) (sym is) (opening-taken reference old new c.args.self.now e.today e.trades e.give_ups e.offers e.limits e.positions)
