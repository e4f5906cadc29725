-- The lease for the leadership: how long a desk may say that it leads.
use Rattle.std.specs.Prelude.{◌+◌, ◌<◌}
use Rattle.gu_lease.specs.Moments.{IsNoEarlier, elapsed}
use Rattle.gu_lease.specs.declared.lease.Lease.{Lease}
use Rattle.gu_lease.specs.declared.moment.Moment.{Moment}

-- A desk leads by a lease if no clock went back, and if less time has gone by since the lease was asked for than it lasts, with a margin.
pub record Leads (lease : Lease) (now : Moment) : Type 0 where
  pub since_asked : IsNoEarlier lease.asked now
  pub since_seen : IsNoEarlier lease.seen now
  pub lasts : elapsed lease.asked now + lease.margin_ms < lease.length_ms
