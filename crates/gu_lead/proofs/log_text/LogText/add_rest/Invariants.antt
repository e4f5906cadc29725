use Rattle.std.proofs.Common.{◌-◌}
use Rattle.gu_etcd.specs.declared.node.TheConstants.{LAST_NUMBER}
use Rattle.gu_lead.proofs.log_text.LogText.add_rest.Given as goal

abbrev pub decreases-loop-self : goal.decreases-loop-self
decreases-loop-self g l = LAST_NUMBER - l.self.count
