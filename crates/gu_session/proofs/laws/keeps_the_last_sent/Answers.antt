use Rattle.gu_session.proofs.KeepingOn.{keeps_the_last}
use Rattle.gu_session.proofs.laws.keeps_the_last_sent.Goals as goal

pub returns : goal.returns
returns c = keeps_the_last
