use Rattle.gu_limits.specs.Changes.{Returns, MayReturn}
use Rattle.gu_limits.proofs.table.LimitTable.give_back.Goals as goal
use Rattle.gu_limits.proofs.table.LimitTable.give_back.Goals.{After-give_back_at}

gives_back : (c : After-give_back_at) → Returns c.args.self.now c.give_back_at.new.self c.args.group.now c.args.path.now c.args.lots
gives_back c = c.give_back_at.ensures c.args.group.now c.args.path.now (record { under = c.limits_of-limits.ensures; once = c.requires.once; used = c.requires.used })

pub returns-clause-limits : goal.returns-clause-limits
returns-clause-limits c = (gives_back c).limits

pub returns-clause-uses : goal.returns-clause-uses
returns-clause-uses c = (gives_back c).uses
