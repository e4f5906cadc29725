use Rattle.gu_fix.proofs.ReadBack.{read_back}
use Rattle.gu_fix.proofs.laws.a_message_is_read_back.Goals as goal

pub returns : goal.returns
returns c = read_back
