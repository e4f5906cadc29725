-- A connection at its place in a worker: what a visit makes of it.
use Rattle.std.specs.Prelude.{◌≡◌, ◌⊎◌, ℕ, Bool, true, false, List, Option}
use Rattle.gu_engine.specs.Houses.{HouseRules}
use Rattle.gu_engine.specs.Turned.{is_last}
use Rattle.gu_engine.specs.declared.turned.Turned.{Turned}
use Rattle.gu_lease.specs.Permits.{MayLeave}
use Rattle.gu_lease.specs.declared.permit.Permit.{Permit}
use Rattle.gu_talks.specs.Visits.{ClosesTalk, Sends, StaysAsItIs, Visits}
use Rattle.gu_talks.specs.declared.talk.Talk.{Talk}
use Rattle.gu_workers.specs.Stages.{is_leaving}
use Rattle.gu_workers.specs.declared.place.Place.{Place}

-- Its session goes on by turns of the engine alone, at a moment. After the last of them it is leaving, and after any other it is as far as it was.
pub record GoesOn {H I O : Type 0} (rules : HouseRules H) (remaining : I → Option (List ℕ)) (moment : ℕ) (old : Place I O) (house : H) (new : Place I O) : Type 0 where
  pub tried : Talk I O
  pub stays : StaysAsItIs remaining old.talk tried
  pub became : Turned
  pub visits : Visits rules remaining moment tried house new.talk became
  pub last : is_last became ≡ true → is_leaving new.stage ≡ true
  pub other : is_last became ≡ false → new.stage ≡ old.stage
  pub card : new.card ≡ old.card

-- its session is ended, at a moment, since the house closes, and it is leaving
pub record ClosesPlace {H I O : Type 0} (moment : ℕ) (old : Place I O) (house : H) (new : Place I O) : Type 0 where
  pub closes : ClosesTalk moment old.talk house new.talk
  pub leaving : is_leaving new.stage ≡ true
  pub card : new.card ≡ old.card

-- either; the second only while the house closes
abbrev pub GoesOnOrCloses : {H I O : Type 0} → HouseRules H → (I → Option (List ℕ)) → ℕ → Bool → Place I O → H → Place I O → Type 0
GoesOnOrCloses rules remaining moment is_closing old house new =
    GoesOn rules remaining moment old house new ⊎ ((is_closing ≡ true) × ClosesPlace moment old house new)

-- What is held goes out as far as it may while so many entries are kept, and the rest is still held, with its marks. The session stays as it is.
pub record SendsPlace {I O : Type 0} (contents : O → Option (List ℕ)) (kept : ℕ) (old new : Place I O) : Type 0 where
  pub sent : Talk I O
  pub sends : Sends contents kept old.talk sent
  pub conversation : new.talk.conversation ≡ sent.conversation
  pub backlog : new.talk.backlog ≡ sent.backlog
  pub marks : new.talk.marks ≡ sent.marks
  pub card : new.card ≡ old.card

-- What a connection holds goes out by a permit that was given while the desk led, or needed no lease, and that says how many entries are kept.
-- Without such a permit nothing goes out, and the connection is as it was.
abbrev pub LeavesByPermit : {I O : Type 0} → (O → Option (List ℕ)) → ℕ → Place I O → Place I O → Type 0
LeavesByPermit contents kept old new = (new ≡ old) ⊎ ((permit : Permit) × MayLeave permit.lease × (permit.kept ≡ kept) × SendsPlace contents kept old new)
