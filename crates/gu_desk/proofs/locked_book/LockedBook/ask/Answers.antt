use Rattle.gu_desk.proofs.Words.{◌∙◌, subst, sym, BookState}
use Rattle.gu_book.specs.Questions.{IsAnswer}
use Rattle.gu_desk.proofs.Fronts.{book_is}
use Rattle.gu_desk.proofs.locked_book.LockedBook.ask.Goals as goal

pub returns-clause-answer : goal.returns-clause-answer
returns-clause-answer g c =
    let same = book_is g.E.EntryLedger.reference c.show.new.seat.front c.self.inside.book c.self.invariant.0 (c.self.view_is ∙ sym c.show.ensures.front) in
    subst (λ (b : BookState). IsAnswer b c.args.query c.in_ok-answer.answer) same c.in_ok-answer.ensures.answer
