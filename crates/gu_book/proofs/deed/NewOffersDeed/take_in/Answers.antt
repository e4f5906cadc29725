use Rattle.gu_book.proofs.Words.{subst, sym, MayTakeIn, TakesIn}
use Rattle.gu_book.proofs.Accepting.{on_ok_two}
use Rattle.gu_book.proofs.TakenIn.{give_up-numbers, give_up-taken, group-given}
use Rattle.gu_book.proofs.deed.NewOffersDeed.take_in.Goals as goal

pub give_up-requires-clause-numbers : goal.give_up-requires-clause-numbers
give_up-requires-clause-numbers c =
    let totals = c.args.totals.now in
    let it = c.requires.1 in
    give_up-numbers c.requires.0 totals c.args.self.now.give_up.now c.as_slice.ensures.sound.most (subst (MayTakeIn c.requires.0 totals) it.is.is it.may)

pub give_up-requires-clause-report : goal.give_up-requires-clause-report
give_up-requires-clause-report c = c.requires.1.is.report_is

pub returns-clause-taken : goal.returns-clause-taken
returns-clause-taken c =
    let old = c.args.totals.now in
    let new = c.give_up.new.self in
    let at = c.args.self.now in
    let asked = at.give_up.now in
    let e = c.give_up.ensures in
    on_ok_two c.give_up.result
    (λ give_ups offers reference command is.
    let given = group-given reference old asked.firm asked.report at.group is.group_is in
    subst (TakesIn reference old new) (sym is.is)
    (give_up-taken reference old new asked given.0 at.group c.as_slice.ensures.sound.most given.1 e.today e.trades e.limits e.positions give_ups offers))
    e.give_ups e.offers
