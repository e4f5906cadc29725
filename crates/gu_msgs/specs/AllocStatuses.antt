-- AllocStatus, tag 87 (FIX 5.0 SP2).
use Rattle.std.specs.Prelude.{ℕ}
use Rattle.gu_terms.specs.AllocRejects.{reject_number}
use Rattle.gu_terms.specs.declared.notice.OfferEvent.{OfferEvent}
use Rattle.gu_terms.specs.declared.notice.OfferEvent.TheVariants as event
use Rattle.gu_msgs.specs.declared.alloc_status.AllocStatus.{AllocStatus}
use Rattle.gu_msgs.specs.declared.alloc_status.AllocStatus.TheVariants.{Accepted, Rejected, AllocationPending, Reversed}

-- the number of a status
abbrev pub status_number : AllocStatus → ℕ
status_number Accepted = 0
status_number (Rejected reject) = reject_number reject
status_number AllocationPending = 6
status_number Reversed = 7

-- the status of an offer after an event: it waits for the carrying firm, is claimed, is refused, or is moved back
abbrev pub status_of : OfferEvent → AllocStatus
status_of event.Offered = AllocationPending
status_of event.Claimed = Accepted
status_of (event.Refused reject) = Rejected reject
status_of event.Reversed = Reversed
