use Rattle.gu_session.proofs.AnsweringOnce.{answered_once}
use Rattle.gu_session.proofs.orders.one_answer.Goals as goal

pub returns : goal.returns
returns c = answered_once
