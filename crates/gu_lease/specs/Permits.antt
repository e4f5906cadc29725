-- When answers may leave a desk.
use Rattle.std.specs.Prelude.{◌≡◌, ◌↔◌, Option, None, Some, IsSome, IfSome}
use Rattle.gu_lease.specs.Lease.{Leads}
use Rattle.gu_lease.specs.declared.lease.Lease.{Lease}
use Rattle.gu_lease.specs.declared.moment.Moment.{Moment}

-- answers may leave if the desk led by its lease at the moment at which it was last seen to lead, or needs no lease
abbrev pub MayLeave : Option Lease → Type 0
MayLeave lease = IfSome lease (λ it. Leads it it.seen)

-- A lease goes on from a moment exactly if the desk leads by it then. It ends for good if not, or if no clock says the moment.
abbrev pub GoesOn : Option Lease → Option Moment → Option Lease → Type 0
GoesOn (Some lease) (Some now) left = (IsSome left ↔ Leads lease now) × IfSome left (λ it. it ≡ record lease { seen = now })
GoesOn (Some lease) None left = left ≡ None
GoesOn None now left = left ≡ None

-- A renewed lease goes on from a moment exactly if the desk leads then by it and by the one before. An ended lease is never renewed.
abbrev pub IsRenewed : Option Lease → Lease → Option Moment → Option Lease → Type 0
IsRenewed (Some lease) newer (Some now) left = (IsSome left ↔ (Leads lease now × Leads newer now)) × IfSome left (λ it. it ≡ record newer { seen = now })
IsRenewed (Some lease) newer None left = left ≡ None
IsRenewed None newer now left = left ≡ None
