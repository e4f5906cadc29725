use Rattle.gu_book.proofs.Beginning.{nothing-kept}
use Rattle.gu_book.proofs.book.Book.seeded.Goals as goal

pub invariant_of-result : goal.invariant_of-result
invariant_of-result c =
    let e = c.seeded.ensures in
    let v = c.new-2.ensures in
    rw c.new.ensures (record { entries = nothing-kept c.args.reference c.seeded.result c.new-2.result e.today e.trades e.offers e.give_ups e.limits e.positions v.days v.none; told = rw c.new-3.ensures.items tt })
