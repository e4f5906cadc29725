use Rattle.std.proofs.Common.{refl}
use Rattle.gu_limits.proofs.KeptLimits.{limit_and_use-kept}
use Rattle.gu_limits.proofs.table.LimitTable.limit_and_use.Goals as goal

pub returns-in_err-kept : goal.returns-in_err-kept
returns-in_err-kept c =
    let both = limit_and_use-kept c.self.inside.day (record { group = c.args.group.now; key = c.args.key.now }) c.self.inside.limits.entries in
    rw (← c.self.view_is, both, ← c.in_err-kept.ensures.value) c.from_residual.ensures

pub returns : goal.returns
returns c =
    let both = limit_and_use-kept c.self.inside.day (record { group = c.args.group.now; key = c.args.key.now }) c.self.inside.limits.entries in
    rw (← c.self.view_is, both, ← c.in_ok-kept.ensures.value, c.used_on.ensures) refl
