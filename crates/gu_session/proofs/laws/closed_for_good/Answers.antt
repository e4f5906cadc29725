use Rattle.gu_session.proofs.Closing.{closed_run}
use Rattle.gu_session.proofs.laws.closed_for_good.Goals as goal

pub returns : goal.returns
returns c = closed_run
