-- The moments that the clock of a visit gives: the same one, once for each turn.
use Rattle.std.specs.Prelude.{ℕ, Bool, ◌==◌, List, Option, Some, replicate}

-- the moments that it gives still: this one, this many times
abbrev pub moments_left : ℕ → ℕ → Option (List ℕ)
moments_left left moment = Some (replicate left moment)

-- it gives no more
abbrev pub is_used_up : ℕ → Bool
is_used_up left = left == 0
