use Rattle.gu_session.proofs.Repeating.{resends}
use Rattle.gu_session.proofs.laws.resends_what_was_sent.Goals as goal

pub returns : goal.returns
returns c = resends
