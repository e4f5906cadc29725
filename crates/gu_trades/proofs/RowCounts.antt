-- The number of rows: a power of two, so that a mask gives a hash's row.
use Rattle.std.proofs.Common.{◌≡◌, ℕ, suc, ◌-◌, ◌*◌, ◌%◌, ◌<◌, inl, inr, arith, pow_pos}
use Rattle.std.proofs.lemmas.Bool.{cases_lt}
use Rattle.std.proofs.lemmas.Nat.{and_mask}
use Rattle.std.specs.Int.{IsPowerOfTwo}
use Rattle.std.specs.Int.Bits.{bit_and}
use Rattle.std.specs.Prelude.{max}

-- there is at least one row
pub some_rows : (rows : ℕ) → IsPowerOfTwo rows → 0 < rows
some_rows rows power = omega (arith, power.1, pow_pos power.0)

-- the mask gives the remainder
pub mask-rows : (number rows : ℕ) → IsPowerOfTwo rows → bit_and number (rows - 1) ≡ number % rows
mask-rows number rows power = rw power.1 (and_mask number power.0)

-- doubling keeps a power of two
pub twice_rows : (rows : ℕ) → (0 < rows → IsPowerOfTwo rows) → IsPowerOfTwo (max (2 * rows) 16)
twice_rows rows power =
    elim (cases_lt 8 rows) [
      | inl many ↦ let own = power (omega arith) in (suc own.0, omega (arith, own.1))
      | inr few ↦ (4, omega arith)
    ]
