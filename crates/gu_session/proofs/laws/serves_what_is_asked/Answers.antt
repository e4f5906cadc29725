use Rattle.gu_session.proofs.Serving.{serves}
use Rattle.gu_session.proofs.laws.serves_what_is_asked.Goals as goal

pub returns : goal.returns
returns c = serves
