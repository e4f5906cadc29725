use Rattle.gu_msgs.proofs.OneFault.{one_fault}
use Rattle.gu_msgs.proofs.laws.one_first_fault.Goals as goal

pub returns : goal.returns
returns c = one_fault
