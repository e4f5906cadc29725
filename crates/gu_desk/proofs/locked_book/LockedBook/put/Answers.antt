use Rattle.gu_desk.proofs.Words.{◌∙◌, subst, sym, BookState}
use Rattle.gu_desk.proofs.Fronts.{book_is}
use Rattle.gu_desk.proofs.locked_book.LockedBook.put.Goals as goal

pub returns-clause-tells : goal.returns-clause-tells
returns-clause-tells g c =
    let same = book_is g.E.EntryLedger.reference c.show.new.seat.front c.self.inside.book c.self.invariant.0 (c.self.view_is ∙ sym c.show.ensures.front) in
    subst (λ (b : BookState). g.Q.Question.tells c.args.question.now b c.ask.new.self) same c.in_ok-ask.ensures
