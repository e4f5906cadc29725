use Rattle.gu_book.proofs.Words.{ap, ◌∙◌, BookState, open_interest_of}
use Rattle.gu_book.proofs.Interest.{interest-is}
use Rattle.gu_book.proofs.book.Book.open_interest.Goals as goal

pub returns : goal.returns
returns c =
    let old = c.self.inside in
    c.open_interest.ensures
    ∙ interest-is (record { reference = old.reference; history = old.history }) old.totals c.args.symbol c.rules.ensures.sound.once.accounts c.rules-2.ensures.once c.self.invariant.entries.legal c.self.invariant.entries.kept.beside
    ∙ ap (λ (k : BookState). open_interest_of k c.args.symbol) c.self.view_is
