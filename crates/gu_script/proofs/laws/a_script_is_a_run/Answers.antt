use Rattle.gu_script.proofs.ScriptLaws.{steps_are_a_run}
use Rattle.gu_script.proofs.laws.a_script_is_a_run.Goals as goal

pub returns : goal.returns
returns c = steps_are_a_run
