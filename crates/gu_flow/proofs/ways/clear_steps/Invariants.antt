use Rattle.gu_flow.specs.Ways.{HasRoom}
use Rattle.gu_flow.proofs.ways.clear_steps.Given as goal

abbrev pub invariant-loop-step : goal.invariant-loop-step
invariant-loop-step l = HasRoom l.net.arcs.items l.flow l.way l.step 1
