use Rattle.gu_world.proofs.HeadlineLemmas.{sweeps_are_greatest}
use Rattle.gu_world.proofs.laws.each_committed_sweep_is_greatest.Goals as goal

pub returns : goal.returns
returns c = sweeps_are_greatest
