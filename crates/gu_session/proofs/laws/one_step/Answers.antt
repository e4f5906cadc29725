use Rattle.gu_session.proofs.SteppingOnce.{one_step_only}
use Rattle.gu_session.proofs.laws.one_step.Goals as goal

pub returns : goal.returns
returns c = one_step_only
