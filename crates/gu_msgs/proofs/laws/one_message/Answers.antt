use Rattle.gu_msgs.proofs.OneMessage.{one_message}
use Rattle.gu_msgs.proofs.laws.one_message.Goals as goal

pub returns : goal.returns
returns c = one_message
