use Rattle.gu_session.proofs.Ending.{nothing_before}
use Rattle.gu_session.proofs.orders.nothing_before_the_logon.Goals as goal

pub returns : goal.returns
returns c = nothing_before
