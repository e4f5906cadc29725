use Rattle.gu_book.proofs.Words.{◌≡◌, ◌∙◌, ◌++◌, ◌∷◌, [], List, ap, arith, length, length-append, subst, sym, Entry, Swept, BookState, StandsLast, sweep_of}
use Rattle.gu_book.proofs.book.Book.enter_current.Goals as goal

pub returns-clause-number : goal.returns-clause-number
returns-clause-number c =
    let before = c.args.self.now.history in
    let grown : length c.self-2.inside.history ≡ length (before ++ Swept (sweep_of c.args.proposal) ∷ []) =
    ap (λ (k : BookState). length k.history) c.self-2.view_is ∙ ap {A = List Entry} length c.in_default-append_sweep.ensures.entered in
    omega (arith, c.receipt_and_view.ensures.number, c.len.ensures, grown, length-append before (Swept (sweep_of c.args.proposal) ∷ []))

pub returns-clause-stands : goal.returns-clause-stands
returns-clause-stands c =
    let now = c.args.self.now in
    let stands = subst (λ n. StandsLast now.reference n (Swept (sweep_of c.args.proposal))) (sym (returns-clause-number c)) c.in_default-append_sweep.ensures.stands in
    subst (StandsLast now.reference c.receipt_and_view.result.0.number) (sym c.receipt_and_view.ensures.entry) stands
