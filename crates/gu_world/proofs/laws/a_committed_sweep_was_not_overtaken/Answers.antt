use Rattle.gu_world.proofs.LookLemmas.{swept-current}
use Rattle.gu_world.proofs.laws.a_committed_sweep_was_not_overtaken.Goals as goal

pub returns : goal.returns
returns c = swept-current
