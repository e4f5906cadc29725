use Rattle.gu_fix.proofs.WholeLemmas.{stands_closed}
use Rattle.gu_fix.proofs.laws.nothing_stands_and_is_open.Goals as goal

pub returns : goal.returns
returns c = stands_closed
