-- Ranges of numbers.
use Rattle.std.specs.Prelude.{ℕ, ℤ, pos, negsuc, ◌≤◌, ◌≤ℤ◌}

-- the lots of a trade or a give-up: 1 to 1,000,000
pub record IsLots (n : ℕ) : Type 0 where
  pub some : 1 ≤ n
  pub most : n ≤ 1000000

-- a price in millionths: up to nine digits before the point and six after it, of either sign
pub record IsPrice (z : ℤ) : Type 0 where
  pub least : negsuc 999999999999998 ≤ℤ z
  pub most : z ≤ℤ pos 999999999999999

-- the number of an offer: 1 to 16,000,000
pub record IsOfferNo (n : ℕ) : Type 0 where
  pub some : 1 ≤ n
  pub most : n ≤ 16000000

-- milliseconds since the start of 1970, up to the end of 9999 (UTC)
abbrev pub IsMoment : ℕ → Type 0
IsMoment n = n ≤ 253402300799999
