use Rattle.gu_keeping.proofs.Words.{entries_between, IsLinkOf}
use Rattle.gu_keeping.proofs.checking.chain_to.Given as goal

abbrev pub invariant-loop-place : goal.invariant-loop-place
invariant-loop-place l = IsLinkOf l.fn.chain (entries_between l.history l.fn.chain.count l.place) l.link
