use Rattle.gu_world.proofs.LookLemmas.{seen-stays}
use Rattle.gu_world.proofs.laws.a_look_stays_true.Goals as goal

pub returns : goal.returns
returns c = seen-stays
