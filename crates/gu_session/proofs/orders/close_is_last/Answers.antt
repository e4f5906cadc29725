use Rattle.gu_session.proofs.Ending.{close_is_last}
use Rattle.gu_session.proofs.orders.close_is_last.Goals as goal

pub returns : goal.returns
returns c = close_is_last
