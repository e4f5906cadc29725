use Rattle.gu_book.proofs.Words.{refl, row_at}
use Rattle.gu_book.proofs.CountedLemmas.{group-found}
use Rattle.gu_book.proofs.answering.RefuseDecide.decide.Goals as goal

pub returns-clause-deed : goal.returns-clause-deed
returns-clause-deed c =
    let it = c.args.self.now in
    record { firm = it.firm; why = it.why; is = refl; group_is = group-found (row_at c.args.totals.now.offers it.offer) c.in_ok-offer.offer c.in_ok-offer.ensures.offer }
