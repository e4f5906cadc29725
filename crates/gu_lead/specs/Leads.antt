-- The lease by which a desk leads, as it is asked for and renewed.
use Rattle.std.specs.Prelude.{◌≡◌, ℕ, ◌*◌, ◌^◌, ◌-◌, min, Result, Ok, Err}
use Rattle.gu_etcd.specs.declared.node.NodeError.{NodeError}
use Rattle.gu_lead.specs.declared.lead.Renewal.{Renewal}
use Rattle.gu_lead.specs.declared.lead.Renewal.TheVariants.{Ended, GoesOn}
use Rattle.gu_lead.specs.declared.lead.TheConstants.{MARGIN_MS}
use Rattle.gu_lead.specs.declared.taking.Taking.{Taking}
use Rattle.gu_lead.specs.declared.taking.Taking.TheVariants.{IsLed, Leads as LeadsBy}
use Rattle.gu_lease.specs.Lease.{Leads}
use Rattle.gu_lease.specs.declared.lease.Lease.{Lease}
use Rattle.gu_lease.specs.declared.moment.Moment.{Moment}

-- a lease that was asked for at a moment and lasts some seconds
abbrev pub lease_from : Moment → ℕ → Lease
lease_from asked seconds = record { asked = asked; seen = asked; length_ms = min (seconds * 1000) (2 ^ 64 - 1); margin_ms = MARGIN_MS }

-- the lease counts from a moment, and lasts some seconds
pub record CountsFrom (asked : Moment) (lease : Lease) : Type 0 where
  pub seconds : ℕ
  pub lease_is : lease ≡ lease_from asked seconds

-- the lead that a desk took, or may claim, counts from some moment
abbrev pub CountsFromSome : Taking → Type 0
CountsFromSome (LeadsBy lead) = (asked : Moment) × CountsFrom asked lead.lease
CountsFromSome (IsLed claim) = (asked : Moment) × CountsFrom asked claim.lead.lease

-- what becomes of a lease that is to be renewed at a moment: it goes on only if the desk led by it then, and counts from that moment; else it
-- is no longer than it was
abbrev pub IsRenewed : Moment → Lease → Lease → Result Renewal NodeError → Type 0
IsRenewed now old new (Ok GoesOn) = Leads old now × CountsFrom now new
IsRenewed now old new (Ok Ended) = (new.asked ≡ old.asked) × (new.length_ms ≡ old.length_ms) × (new.margin_ms ≡ old.margin_ms)
IsRenewed now old new (Err error) = (new.asked ≡ old.asked) × (new.length_ms ≡ old.length_ms) × (new.margin_ms ≡ old.margin_ms)
