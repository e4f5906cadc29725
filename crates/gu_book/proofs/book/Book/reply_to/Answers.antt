use Rattle.gu_book.proofs.Words.{◌≤◌, length, refl, arith, subst, BookState}
use Rattle.gu_book.proofs.book.Book.reply_to.Goals as goal

pub returns-then-len-ge-MOST_ENTRIES-clause-full : goal.returns-then-len-ge-MOST_ENTRIES-clause-full
returns-then-len-ge-MOST_ENTRIES-clause-full c =
    let full : 1000000 ≤ length c.self.inside.history = omega (arith, c.if-len-ge-MOST_ENTRIES.true, c.len.ensures) in (
      λ is. subst (λ (k : BookState). 1000000 ≤ length k.history) c.self.view_is full,
      λ is. refl,
    )
