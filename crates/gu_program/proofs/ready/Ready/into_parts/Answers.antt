use Rattle.std.proofs.Common.{IfSome, subst}
use Rattle.gu_keeping.specs.Chains.{IsChainOf}
use Rattle.gu_program.proofs.ready.Ready.into_parts.Goals as goal

-- the journal has the entries of the world's book
pub invariant_of-result : goal.invariant_of-result
invariant_of-result g c = record {
  journaled = subst (λ begun. IfSome begun (λ b. IsChainOf b.journal.chain c.args.self.world.state.book.history)) c.in-Some.is c.args.self.journaled;
}
