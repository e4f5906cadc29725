use Rattle.gu_desk.proofs.Words.{subst, BookState}
use Rattle.gu_book.specs.Informing.{HoldsInformed}
use Rattle.gu_desk.proofs.Fronts.{book_is}
use Rattle.gu_desk.proofs.locked_book.LockedBook.informs.Goals as goal

pub returns : goal.returns
returns g c =
    let same = book_is g.E.EntryLedger.reference c.args.self.now c.self.inside.book c.self.invariant.0 c.self.view_is in
    subst (λ (b : BookState). HoldsInformed b c.args.number c.informs.result) same c.informs.ensures
