use Rattle.gu_limits.proofs.Words.{◌≡◌, List, take, Group, LimitKey, MayCharge, limits_after_charge}
use Rattle.gu_limits.proofs.table.LimitTable.charge_at.Given as goal

abbrev pub invariant-loop-number : goal.invariant-loop-number
invariant-loop-number l =
    (group : Group) (keys : List LimitKey) → MayCharge l.initial.self group keys l.lots l.limits
    → l.self ≡ limits_after_charge l.initial.self group (take l.number-index keys) l.lots
