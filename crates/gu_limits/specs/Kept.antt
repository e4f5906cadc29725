-- Machinery: limits as stored, each with the number of the day on which it was last charged.
use Rattle.std.specs.Prelude.{ℕ, ◌≤◌, ◌==◌, Bool, List, Option, All, map, unwrap_or, if◌then◌else◌}
use Rattle.gu_limits.specs.declared.table.GroupKey.{GroupKey}
use Rattle.gu_limits.specs.declared.table.KeptLimit.{KeptLimit}
use Rattle.gu_limits.specs.declared.table.LimitTable.TheInside.{Inside}
use Rattle.gu_limits.specs.Limits.{GroupLimit}

-- the lots used on a day
abbrev pub used_on : ℕ → KeptLimit → ℕ
used_on day kept = if kept.day == day then kept.used else 0

-- a limit, as of a day
abbrev pub limit_on : ℕ → GroupKey × KeptLimit → GroupLimit
limit_on day entry = record { group = entry.0.group; key = entry.0.key; limit = entry.1.limit; used = used_on day entry.1 }

-- all limits, as of the table's day
abbrev pub limits_kept : Inside → List GroupLimit
limits_kept table = map (limit_on table.day) table.limits.entries

-- a limit after it is set to these lots: its use stays, and a new limit has no use
abbrev pub set_to : ℕ → ℕ → Option KeptLimit → KeptLimit
set_to day lots before = record (unwrap_or before (record { limit = lots; used = 0; day = day })) { limit = lots }

-- a limit with no use, on day 0
abbrev pub unused : GroupKey × KeptLimit → GroupKey × KeptLimit
unused entry = (entry.0, record entry.1 { used = 0; day = 0 })

-- the limit and its use are at most the highest limit, and it was last charged no later than this day
pub record IsWithin (day : ℕ) (kept : KeptLimit) : Type 0 where
  pub limit : kept.limit ≤ 1000000000
  pub used : kept.used ≤ 1000000000
  pub charged : kept.day ≤ day

-- this holds for all limits
abbrev pub IsKept : Inside → Type 0
IsKept table = All (λ entry. IsWithin table.day entry.1) table.limits.entries
