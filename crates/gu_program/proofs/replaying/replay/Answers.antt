use Rattle.gu_script.specs.declared.error.ScriptError.TheVariants.{BadLine}
use Rattle.gu_script.proofs.ReplayRuns.{error_moved}
use Rattle.gu_program.proofs.replaying.replay.Goals as goal

pub returns-in-Ok-clause-done : goal.returns-in-Ok-clause-done
returns-in-Ok-clause-done g c = (c.in-Ok.world, c.in-Ok.ensures.done)

pub returns-in-Err-clause-bad_line : goal.returns-in-Err-clause-bad_line
returns-in-Err-clause-bad_line g c n is = c.in-Err.ensures.bad_line n (error_moved c.in-Err.error (BadLine n) is)
