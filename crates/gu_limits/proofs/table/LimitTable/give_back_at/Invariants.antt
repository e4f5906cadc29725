use Rattle.gu_limits.proofs.Words.{◌≡◌, List, take, Group, LimitKey, MayReturn, limits_after_return}
use Rattle.gu_limits.proofs.table.LimitTable.give_back_at.Given as goal

abbrev pub invariant-loop-number : goal.invariant-loop-number
invariant-loop-number l =
    (group : Group) (keys : List LimitKey) → MayReturn l.initial.self group keys l.lots l.limits
    → l.self ≡ limits_after_return l.initial.self group (take l.number-index keys) l.lots
