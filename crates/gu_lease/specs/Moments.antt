-- Moments by the two clocks of a machine.
use Rattle.std.specs.Prelude.{ℕ, ◌-◌, ◌≤◌, max}
use Rattle.gu_lease.specs.declared.moment.Moment.{Moment}

-- the time between two moments: the greater of the differences by the two clocks
abbrev pub elapsed : Moment → Moment → ℕ
elapsed from to = max (to.monotonic_ms - from.monotonic_ms) (to.system_ms - from.system_ms)

-- neither clock went back between two moments
pub record IsNoEarlier (from to : Moment) : Type 0 where
  pub monotonic : from.monotonic_ms ≤ to.monotonic_ms
  pub system : from.system_ms ≤ to.system_ms
