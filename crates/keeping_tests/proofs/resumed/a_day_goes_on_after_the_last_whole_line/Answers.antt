use Rattle.std.proofs.Common.{List, subst}
use Rattle.gu_terms.specs.declared.entry.Entry.{Entry}
use Rattle.gu_keeping.specs.Chains.{IsChainOf}
use Rattle.keeping_tests.proofs.resumed.a_day_goes_on_after_the_last_whole_line.Goals as goal

-- the chain is that of the book's history
pub gone_on-device-requires-clause-chain : goal.gone_on-device-requires-clause-chain
gone_on-device-requires-clause-chain g c =
    subst (λ (h : List Entry). IsChainOf c.chain_in-chain.result h) c.history.ensures.history c.chain_in-chain.ensures
