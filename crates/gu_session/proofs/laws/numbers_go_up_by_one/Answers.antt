use Rattle.gu_session.proofs.GoingOn.{numbers_go_up}
use Rattle.gu_session.proofs.laws.numbers_go_up_by_one.Goals as goal

pub returns : goal.returns
returns c = numbers_go_up
