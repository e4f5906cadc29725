use Rattle.gu_world.proofs.LookLemmas.{stale-blamed}
use Rattle.gu_world.proofs.laws.a_stale_commit_has_a_culprit.Goals as goal

pub returns : goal.returns
returns c = stale-blamed
