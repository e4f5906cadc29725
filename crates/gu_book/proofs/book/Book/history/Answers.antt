use Rattle.gu_book.proofs.Words.{subst, LongIsShort}
use Rattle.gu_rules.proofs.LegalLaws.{long_as_short}
use Rattle.gu_book.proofs.book.Book.history.Goals as goal

pub returns-clause-even : goal.returns-clause-even
returns-clause-even c =
    let old = c.self.inside in
    subst LongIsShort c.self.view_is (long_as_short old.reference old.history c.rules.ensures.sound c.self.invariant.entries.legal)
