use Rattle.std.proofs.Common.{IfSome, List, ap, subst, sym}
use Rattle.gu_terms.specs.declared.entry.Entry.{Entry}
use Rattle.gu_rules.specs.BookState.{BookState}
use Rattle.gu_keeping.specs.Chains.{IsChainOf}
use Rattle.gu_program.proofs.serving.opening_of.Goals as goal

-- the journal has the entries of the world's book
pub new-requires : goal.new-requires
new-requires g c =
    subst (λ (h : List Entry). IfSome c.args.begun.journal (λ j. IsChainOf j.chain h))
    (sym (ap (λ (b : BookState). b.history) c.into_book.ensures)) c.args.begun.journaled
