use Rattle.gu_msgs.proofs.EachSaid.{each_said}
use Rattle.gu_msgs.proofs.laws.a_message_or_a_fault.Goals as goal

pub returns : goal.returns
returns c = each_said
