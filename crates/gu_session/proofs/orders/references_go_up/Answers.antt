use Rattle.gu_session.proofs.AnsweringOnce.{references_ascend}
use Rattle.gu_session.proofs.orders.references_go_up.Goals as goal

pub returns : goal.returns
returns c = references_ascend
