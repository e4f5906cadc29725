-- Why a connection ends that was listened to.
use Rattle.std.proofs.Common.{◌≡◌, ℕ, List, Option, Some, subst}
use Rattle.gu_knocks.specs.Listening.{Listens}
use Rattle.gu_knocks.specs.declared.listening.Listened.{Listened}
use Rattle.gu_knocks.specs.declared.listening.Listening.{Listening}
use Rattle.gu_log.specs.declared.event.EndCause.{EndCause}
use Rattle.gu_log.specs.declared.event.EndCause.TheVariants.{Done, HungUp, Cut, Closing, Silent, NoLogon, Stream, Memory, Stopped, Refused}
use Rattle.gu_secrets.specs.declared.row.SecretRow.{SecretRow}
use Rattle.gu_terms.specs.declared.firm.FirmId.{FirmId}
use Rattle.gu_workers.specs.Knockers.{EndsBy, IsEndAfter}
use Rattle.gu_workers.specs.declared.knocker.Knocker.{Knocker}

-- its peer has ended, or its stream failed
pub ends_after : {I O : Type 0} (remaining : I → Option (List ℕ)) (rows : Option (List SecretRow)) (firms : List FirmId) (ms : ℕ) (old : Knocker I O)
    (listening : Listening I) (became : Listened I) (cause : EndCause) → old.listening ≡ Some listening → Listens remaining rows firms listening became
    → IsEndAfter became cause → EndsBy remaining ms old cause
ends_after remaining rows firms ms old listening became Done is listens ended = (listening, is, subst (Listens remaining rows firms listening) ended listens)
ends_after remaining rows firms ms old listening became Stream is listens ended = (listening, is)
ends_after remaining rows firms ms old listening became HungUp is listens ended = absurd ended
ends_after remaining rows firms ms old listening became Cut is listens ended = absurd ended
ends_after remaining rows firms ms old listening became Closing is listens ended = absurd ended
ends_after remaining rows firms ms old listening became Silent is listens ended = absurd ended
ends_after remaining rows firms ms old listening became NoLogon is listens ended = absurd ended
ends_after remaining rows firms ms old listening became Memory is listens ended = absurd ended
ends_after remaining rows firms ms old listening became Stopped is listens ended = absurd ended
ends_after remaining rows firms ms old listening became Refused is listens ended = absurd ended
