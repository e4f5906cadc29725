-- Machinery: stored hashes of a list's elements, and the last position that passes a test.
use Rattle.std.specs.Prelude.{ℕ, zero, suc, ◌/◌, ◌^◌, ◌==◌, Bool, List, slice_index, fold, if◌then◌else◌}
use Rattle.std.specs.Hash.FoldHasher.{write, finish}
use Rattle.gu_terms.specs.declared.seed.Seed.{Seed}

-- the hashes, in the order of the list, and how many more fit without an allocation
pub record Numbered : Type 0 where
  pub numbers : List ℕ
  pub spare : ℕ

-- the last position below a bound that passes a test, counted from 1; 0 if none does
abbrev pub last_before : (ℕ → Bool) → ℕ → ℕ
last_before test zero = 0
last_before test (suc place) = if test place then suc place else last_before test place

-- the position has this hash
abbrev pub has_number : List ℕ → ℕ → ℕ → Bool
has_number numbers number place = slice_index numbers place == number

-- the stored hash of a value that feeds these texts to a hasher: the upper half of its hash
abbrev pub number_of : Seed → List (List ℕ) → ℕ
number_of seed texts = finish (fold write seed.begun texts) / 2 ^ 32
