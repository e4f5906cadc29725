use Rattle.gu_limits.specs.Changes.{Charges, MayCharge}
use Rattle.gu_limits.proofs.table.LimitTable.charge.Goals as goal
use Rattle.gu_limits.proofs.table.LimitTable.charge.Goals.{After-charge_at}

charges : (c : After-charge_at) → Charges c.args.self.now c.charge_at.new.self c.args.group.now c.args.path.now c.args.lots
charges c = c.charge_at.ensures c.args.group.now c.args.path.now (record { under = c.limits_of-limits.ensures; once = c.requires.once; room = c.requires.room })

pub returns-clause-limits : goal.returns-clause-limits
returns-clause-limits c = (charges c).limits

pub returns-clause-uses : goal.returns-clause-uses
returns-clause-uses c = (charges c).uses
