-- How device calls change its bytes, and what a crash may leave of them until a sync.
use Rattle.std.specs.Prelude.{◌<◌, ◌≡◌, ◌⊎◌, ℕ, ◌≤◌, List, [], ◌∷◌, ◌++◌, length, min, replicate, take, drop, Result, Err, IsErrOf}
use Rattle.gu_journal.specs.declared.device.DeviceError.{DeviceError}
use Rattle.gu_journal.specs.declared.device.DeviceError.TheVariants.{Failed, Full}

-- the old bytes with the first of them replaced by these bytes, which may be more
abbrev pub over : List ℕ → List ℕ → List ℕ
over [] olds = olds
over (byte ∷ bytes) [] = byte ∷ bytes
over (byte ∷ bytes) (old ∷ olds) = byte ∷ over bytes olds

-- the old bytes with those from a position on replaced by these bytes
abbrev pub written : ℕ → List ℕ → List ℕ → List ℕ
written at bytes olds = take at olds ++ over bytes (drop at olds)

-- each byte is the one in the first list or the one in the second
abbrev pub IsMix : List ℕ → List ℕ → List ℕ → Type 0
IsMix [] [] [] = Unit {0}
IsMix (old ∷ olds) (new ∷ news) (left ∷ lefts) = ((left ≡ old) ⊎ (left ≡ new)) × IsMix olds news lefts
IsMix olds news lefts = ⊥

-- what a crash leaves of an incomplete write: each byte is the old one or the one written
abbrev pub Mixes : ℕ → List ℕ → List ℕ → List ℕ → Type 0
Mixes at bytes old left = IsMix old (written at bytes old) left

-- what a crash leaves of incomplete lengthening: some of the zeros
pub record Lengthens (more : ℕ) (old left : List ℕ) : Type 0 where
  pub zeros : ℕ
  pub no_more : zeros ≤ more
  pub is : left ≡ old ++ replicate zeros 0

-- what a crash leaves of an incomplete cut: a length from the new to the old
pub record Cuts (len : ℕ) (old left : List ℕ) : Type 0 where
  pub no_shorter : min len (length old) ≤ length left
  pub is : left ≡ take (length left) old

-- each outcome of a crash after a step is a partial step from an outcome before it
abbrev pub Follows : (List ℕ → List ℕ → Type 0) → (List ℕ → Type 0) → (List ℕ → Type 0) → Type 0
Follows step old new = (c : List ℕ) → new c → (d : List ℕ) × old d × step d c

-- a call returns `Failed` only if the device failed, and `Full` only if it had no room
pub record HasCause {D T : Type 0} (failures shortages : D → ℕ) (old new : D) (result : Result T DeviceError) : Type 0 where
  pub failed : IsErrOf result Failed → failures old < failures new
  pub full : IsErrOf result Full → shortages old < shortages new
  pub failures_stay : failures old ≤ failures new
  pub shortages_stay : shortages old ≤ shortages new

-- the same for an error
abbrev pub HasFailed : {D : Type 0} → (D → ℕ) → (D → ℕ) → D → D → DeviceError → Type 0
HasFailed failures shortages old new error = HasCause {T = Unit {0}} failures shortages old new (Err error)
