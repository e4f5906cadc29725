use Rattle.gu_limits.proofs.Words.{◌∙◌, ap, map, limits_of_new_day, limit_on, used_in}
use Rattle.gu_limits.proofs.Bookings.{new_day-limits, new_day-used}
use Rattle.gu_limits.proofs.KeptLimits.{first-day, next-day, within-unused}
use Rattle.gu_limits.proofs.table.LimitTable.new_day.Goals as goal

pub invariant_of-self-else-self-lt18446744073709551615 : goal.invariant_of-self-else-self-lt18446744073709551615
invariant_of-self-else-self-lt18446744073709551615 c = rw c.forget_uses.ensures (within-unused c.self.inside.day c.self.inside.limits.entries c.self.invariant)

pub returns-then-self-lt18446744073709551615-clause-rows : goal.returns-then-self-lt18446744073709551615-clause-rows
returns-then-self-lt18446744073709551615-clause-rows c =
    next-day c.self.inside.day c.self.inside.limits.entries c.self.invariant ∙ ap limits_of_new_day c.self.view_is

pub returns-then-self-lt18446744073709551615-clause-limits : goal.returns-then-self-lt18446744073709551615-clause-limits
returns-then-self-lt18446744073709551615-clause-limits c =
    rw (returns-then-self-lt18446744073709551615-clause-rows c) (new_day-limits c.args.self.now)

pub returns-then-self-lt18446744073709551615-clause-uses : goal.returns-then-self-lt18446744073709551615-clause-uses
returns-then-self-lt18446744073709551615-clause-uses c at on =
    ap (λ ls. used_in ls at on) (returns-then-self-lt18446744073709551615-clause-rows c) ∙ new_day-used c.args.self.now at on

pub returns-else-self-lt18446744073709551615-clause-rows : goal.returns-else-self-lt18446744073709551615-clause-rows
returns-else-self-lt18446744073709551615-clause-rows c =
    ap (map (limit_on 0)) c.forget_uses.ensures ∙ first-day c.self.inside.day c.self.inside.limits.entries ∙ ap limits_of_new_day c.self.view_is

pub returns-else-self-lt18446744073709551615-clause-limits : goal.returns-else-self-lt18446744073709551615-clause-limits
returns-else-self-lt18446744073709551615-clause-limits c =
    rw (returns-else-self-lt18446744073709551615-clause-rows c) (new_day-limits c.args.self.now)

pub returns-else-self-lt18446744073709551615-clause-uses : goal.returns-else-self-lt18446744073709551615-clause-uses
returns-else-self-lt18446744073709551615-clause-uses c at on =
    ap (λ ls. used_in ls at on) (returns-else-self-lt18446744073709551615-clause-rows c) ∙ new_day-used c.args.self.now at on
