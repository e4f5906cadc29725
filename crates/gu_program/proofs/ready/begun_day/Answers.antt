use Rattle.std.proofs.Common.{◌∙◌, IfSome, List, ap, subst}
use Rattle.gu_terms.specs.declared.entry.Entry.{Entry}
use Rattle.gu_rules.specs.BookState.{BookState}
use Rattle.gu_keeping.specs.Chains.{IsChainOf}
use Rattle.gu_program.proofs.ready.begun_day.Goals as goal

-- the journal has the entries of the world's book
pub invariant_of-result : goal.invariant_of-result
invariant_of-result g c = record {
  journaled =
      subst (λ (h : List Entry). IfSome c.in_ok-begun.begun (λ b. IsChainOf b.journal.chain h))
      (c.history.ensures.history ∙ ap (λ (b : BookState). b.history) c.book.ensures) c.in_ok-begun.ensures;
}
