use Rattle.gu_desk.proofs.Words.{◌∙◌, IfOk, subst, BookState}
use Rattle.gu_rules.specs.Notices.{IsStretch}
use Rattle.gu_desk.proofs.Fronts.{book_is}
use Rattle.gu_desk.proofs.locked_book.LockedBook.tell.Goals as goal

pub returns-clause-told : goal.returns-clause-told
returns-clause-told g c =
    let same = book_is g.E.EntryLedger.reference c.args.self.now c.self.inside.book c.self.invariant.0 c.self.view_is in
    subst (λ (b : BookState). IfOk c.stretch.result (IsStretch b c.args.firm c.args.from)) (c.note_recipients.ensures ∙ same) c.stretch.ensures
