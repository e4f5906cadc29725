use Rattle.gu_book.proofs.Words.{◌≡◌, ◌∙◌, ◌++◌, ◌∷◌, [], List, ap, arith, length, length-append, subst, sym, Entry, Asked, BookState, StandsLast}
use Rattle.gu_book.proofs.book.Book.enter.Goals as goal

pub returns-clause-entered : goal.returns-clause-entered
returns-clause-entered c = c.in_ok-reply.ensures.entered

pub returns-clause-number : goal.returns-clause-number
returns-clause-number c =
    let before = c.args.self.now.history in
    let entry = Asked c.args.command c.in_ok-reply.reply in
    let grown : length c.self.inside.history ≡ length (before ++ entry ∷ []) =
    ap (λ (k : BookState). length k.history) c.self.view_is ∙ ap {A = List Entry} length c.in_ok-reply.ensures.entered in
    omega (arith, c.len.ensures, grown, length-append before (entry ∷ []))

pub returns-clause-entry : goal.returns-clause-entry
returns-clause-entry c = ap (Asked c.args.command) c.in_ok-reply.ensures.reply

pub returns-clause-stands : goal.returns-clause-stands
returns-clause-stands c =
    subst (λ n. StandsLast c.args.self.now.reference n (Asked c.args.command c.in_ok-reply.reply)) (sym (returns-clause-number c)) c.in_ok-reply.ensures.stands

pub returns-clause-reference : goal.returns-clause-reference
returns-clause-reference c = c.reply_to.ensures.reference

pub returns-clause-refused : goal.returns-clause-refused
returns-clause-refused c = tt
