use Rattle.gu_world.proofs.Words.{take, IsRunOf}
use Rattle.gu_world.proofs.running.take_all.Given as goal

abbrev pub invariant-loop-step : goal.invariant-loop-step
invariant-loop-step l = IsRunOf l.fn.reference (take l.step-index l.steps) l.world
