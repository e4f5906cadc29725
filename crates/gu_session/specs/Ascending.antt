-- Machinery: messages whose numbers ascend. No other crate names this file.
use Rattle.std.specs.Prelude.{ℕ, ◌+◌, ◌≤◌, ◌<◌, List, [], ◌∷◌, ⊤}
use Rattle.gu_session.specs.declared.sent_ring.Sent.{Sent}

-- these messages have ascending numbers from one up to another
abbrev pub AreWithin : ℕ → ℕ → List Sent → Type 0
AreWithin from to [] = from ≤ to
AreWithin from to (sent ∷ later) = (from ≤ sent.number) × AreWithin (sent.number + 1) to later

-- these messages have ascending numbers
pub record IsAscending (kept : List Sent) : Type 0 where
  pub to : ℕ
  pub within : AreWithin 1 to kept

-- all numbers are below this one
abbrev pub AreBelow : ℕ → List Sent → Type 0
AreBelow number [] = ⊤
AreBelow number (sent ∷ later) = (sent.number < number) × AreBelow number later

-- no number is below this one
abbrev pub AreFrom : ℕ → List Sent → Type 0
AreFrom number [] = ⊤
AreFrom number (sent ∷ later) = (number ≤ sent.number) × AreFrom number later
