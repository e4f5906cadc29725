use Rattle.gu_msgs.proofs.NoFault.{no_fault}
use Rattle.gu_msgs.proofs.laws.what_is_read_has_no_fault.Goals as goal

pub returns : goal.returns
returns c = no_fault
