use Rattle.std.proofs.Common.{rules}
use Rattle.gu_session.proofs.sequence.by_number.Goals as goal

pub returns : goal.returns
returns c = search rules
