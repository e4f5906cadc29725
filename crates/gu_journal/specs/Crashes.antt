-- What a crash may leave, over time.
use Rattle.std.specs.Prelude.{◌≡◌, ◌⊎◌, ℕ, ◌≤◌}

-- a crash leaves this and nothing else
abbrev pub Only : {X : Type 0} → X → (X → Type 0) → Type 0
Only left outcomes = (c : _) → outcomes c → c ≡ left

-- Time passes: a crash since a moment might have left what it might have left before, or what it may leave now.
pub record Elapses {D X : Type 0} (moment : D → ℕ) (left_since : D → ℕ → X → Type 0) (old new : D) (may_leave : X → Type 0) : Type 0 where
  pub later : moment old ≤ moment new
  pub nothing_else : (t : ℕ) (c : X) → t ≤ moment old → left_since new t c → left_since old t c ⊎ may_leave c
  pub keeps : (t : ℕ) (c : X) → t ≤ moment old → left_since old t c → left_since new t c

-- a crash at any moment from the old state to the new one leaves something with property P
pub record LeavesOnly {D X : Type 0} (moment : D → ℕ) (left_since : D → ℕ → X → Type 0) (old new : D) (P : X → Type 0) : Type 0 where
  pub later : moment old ≤ moment new
  pub each : (c : X) → left_since new (moment old) c → P c
  -- and nothing else is added to what a crash might have left since an earlier moment
  pub before : (t : ℕ) (c : X) → t ≤ moment old → left_since new t c → left_since old t c ⊎ P c
