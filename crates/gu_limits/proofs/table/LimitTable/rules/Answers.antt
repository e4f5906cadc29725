use Rattle.gu_limits.proofs.KeptLimits.{limits-within, once-kept, uses-within}
use Rattle.gu_limits.proofs.table.LimitTable.rules.Goals as goal

pub returns-clause-once : goal.returns-clause-once
returns-clause-once c = rw (← c.self.view_is) (once-kept c.self.inside.day c.self.inside.limits.entries c.len.ensures.unique)

pub returns-clause-limits : goal.returns-clause-limits
returns-clause-limits c = rw (← c.self.view_is) (limits-within c.self.inside.day c.self.inside.limits.entries c.self.invariant)

pub returns-clause-uses : goal.returns-clause-uses
returns-clause-uses c = rw (← c.self.view_is) (uses-within c.self.inside.day c.self.inside.limits.entries c.self.invariant)
