use Rattle.std.proofs.Common.{rules}
use Rattle.gu_flow.proofs.proposal.propose.Goals as goal

pub invariant_of-result : goal.invariant_of-result
invariant_of-result c = search rules

pub returns-in-Ok-clause-sound : goal.returns-in-Ok-clause-sound
returns-in-Ok-clause-sound c = search rules
