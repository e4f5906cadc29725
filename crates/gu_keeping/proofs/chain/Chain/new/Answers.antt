use Rattle.gu_keeping.proofs.ChainLemmas.{none_chained}
use Rattle.gu_keeping.proofs.chain.Chain.new.Goals as goal

pub returns-clause-chain : goal.returns-clause-chain
returns-clause-chain c = none_chained
