-- Machinery: running sums of bytes, modulo 256. No other crate names this file.
use Rattle.std.specs.Prelude.{◌≡◌, ℕ, ◌+◌, ◌%◌, ◌≤◌, Bool, true, List, [], ◌∷◌, length}

-- the running sum after these bytes
abbrev pub sum_after : ℕ → List ℕ → ℕ
sum_after base [] = base
sum_after base (b ∷ bs) = sum_after ((base + b) % 256) bs

-- the running sum after each of these bytes
abbrev pub running_sums : ℕ → List ℕ → List ℕ
running_sums base [] = []
running_sums base (b ∷ bs) = let s = (base + b) % 256 in s ∷ running_sums s bs

-- the fields of a window: if sums are kept, they are those of the bytes; and at most half of the bytes are before `start`, and so consumed
pub record IsWindow (bytes sums : List ℕ) (keeps_sums : Bool) (start : ℕ) : Type 0 where
  pub summed : keeps_sums ≡ true → sums ≡ running_sums 0 bytes
  pub lean : start + start ≤ length bytes
