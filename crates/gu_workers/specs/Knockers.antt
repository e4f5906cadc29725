-- A connection at its place before there is a session, and who is let in.
use Rattle.std.specs.Prelude.{◌≡◌, ◌≤◌, ⊤, ℕ, List, [], ◌∷◌, Option, None, Some}
use Rattle.std.specs.Io.KnownBytes.{IsAtEnd}
use Rattle.gu_knocks.specs.Listening.{Listens}
use Rattle.gu_knocks.specs.declared.listening.Listened.{Listened}
use Rattle.gu_knocks.specs.declared.listening.Listened.TheVariants as listened
use Rattle.gu_knocks.specs.declared.listening.Listening.{Listening}
use Rattle.gu_log.specs.declared.event.EndCause.{EndCause}
use Rattle.gu_log.specs.declared.event.EndCause.TheVariants.{Done, Stream, Memory, NoLogon, Refused}
use Rattle.gu_secrets.specs.declared.row.SecretRow.{SecretRow}
use Rattle.gu_terms.specs.declared.firm.FirmId.{FirmId}
use Rattle.gu_workers.specs.declared.knocker.Knocked.{Knocked}
use Rattle.gu_workers.specs.declared.knocker.Knocked.TheVariants.{Stays, TurnedAway, Enters}
use Rattle.gu_workers.specs.declared.knocker.Knocker.{Knocker}

-- who may log on where a connection came in: at a firm's own door that firm alone, and by the port each of these
abbrev pub firms_at : Option FirmId → List FirmId → List FirmId
firms_at None firms = firms
firms_at (Some firm) firms = firm ∷ []

-- who may log on by a connection that is let in: the firm that a secret let in, and without secrets whoever may log on where it came in
abbrev pub firms_let_in : Option FirmId → Option FirmId → List FirmId → List FirmId
firms_let_in None door firms = firms_at door firms
firms_let_in (Some firm) door firms = firm ∷ []

-- It is listened to, at this door, and this became of it: it stays with what it says, or enters with who is let in and all that it has said. One
-- that is turned away isn't listened to any more.
abbrev pub BecomesAfter : {I O : Type 0} → Listened I → Option FirmId → Knocked I O → Type 0
BecomesAfter (listened.Waits listening) door (Stays new) = (new.listening ≡ Some listening) × (new.stand.door ≡ door)
BecomesAfter (listened.LetsIn glance said stream) door (Enters new) =
    (new.firm ≡ glance.firm) × (new.door ≡ door) × (new.halves.said ≡ said) × (new.halves.incoming ≡ stream)
BecomesAfter (listened.Refuses glance stream) door (TurnedAway new shown) = (new.listening ≡ None) × (new.stand.door ≡ door)
BecomesAfter _ door _ = ⊥

-- a visit of one that says this; nobody lets in one that isn't listened to any more
abbrev pub VisitedBy : {I O : Type 0} → (I → Option (List ℕ)) → Option (List SecretRow) → List FirmId → Option FirmId → Option (Listening I) → Knocked I O → Type 0
VisitedBy remaining rows firms door None (Stays new) = (new.listening ≡ None) × (new.stand.door ≡ door)
VisitedBy remaining rows firms door None _ = ⊥
VisitedBy {I} remaining rows firms door (Some listening) new =
    (became : Listened I) × Listens remaining rows (firms_at door firms) listening became × BecomesAfter became door new

-- a visit listens once
abbrev pub IsVisited : {I O : Type 0} → (I → Option (List ℕ)) → Option (List SecretRow) → List FirmId → Knocker I O → Knocked I O → Type 0
IsVisited remaining rows firms old new = VisitedBy remaining rows firms old.stand.door old.listening new

-- why one ends that was listened to: its peer has ended, or its stream failed
abbrev pub IsEndAfter : {I : Type 0} → Listened I → EndCause → Type 0
IsEndAfter became Done = became ≡ listened.Ends
IsEndAfter became Stream = became ≡ listened.Fails
IsEndAfter became _ = ⊥

-- why one ends once its time is up: it said nothing whole, or nobody was let in
abbrev pub end_cause_of : {I : Type 0} → Option (Listening I) → EndCause
end_cause_of (Some listening) = NoLogon
end_cause_of None = Refused

-- Why a visit ends one. Its time is up; or while it is listened to its peer has ended, its stream fails, or an allocation does.
abbrev pub EndsBy : {I O : Type 0} → (I → Option (List ℕ)) → ℕ → Knocker I O → EndCause → Type 0
EndsBy remaining ms old NoLogon = (old.stand.until ≤ ms) × (end_cause_of old.listening ≡ NoLogon)
EndsBy remaining ms old Refused = (old.stand.until ≤ ms) × (end_cause_of old.listening ≡ Refused)
EndsBy {I} remaining ms old Done = (listening : Listening I) × (old.listening ≡ Some listening) × IsAtEnd (remaining listening.stream)
EndsBy {I} remaining ms old Stream = (listening : Listening I) × (old.listening ≡ Some listening)
EndsBy {I} remaining ms old Memory = (listening : Listening I) × (old.listening ≡ Some listening)
EndsBy remaining ms old _ = ⊥
