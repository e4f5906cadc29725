use Rattle.gu_world.proofs.LegalRuns.{run_legal}
use Rattle.gu_world.proofs.laws.a_run_is_legal.Goals as goal

pub returns : goal.returns
returns c = run_legal
