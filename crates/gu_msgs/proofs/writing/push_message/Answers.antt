use Rattle.std.proofs.Common.{rules}
use Rattle.gu_msgs.proofs.writing.push_message.Goals as goal

pub returns : goal.returns
returns c = search rules
