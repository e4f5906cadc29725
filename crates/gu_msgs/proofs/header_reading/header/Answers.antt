use Rattle.std.proofs.Common.{rules}
use Rattle.gu_msgs.proofs.header_reading.header.Goals as goal

pub returns : goal.returns
returns c = search rules
