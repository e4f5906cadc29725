use Rattle.std.proofs.Common.{List, subst}
use Rattle.gu_terms.specs.declared.entry.Entry.{Entry}
use Rattle.gu_keeping.specs.Chains.{IsChainOf}
use Rattle.server_tests.proofs.kept_days.begun_on.Goals as goal

-- the journal has the entries of the book
pub invariant_of-result : goal.invariant_of-result
invariant_of-result g c = record {
  journaled = subst (λ (h : List Entry). IsChainOf c.opened_journal-journal.result.chain h) c.history.ensures.history c.opened_journal-journal.ensures;
}
