-- Marks: one for each byte that is held, in order. It is how many entries must be kept before the byte may go.
use Rattle.std.specs.Prelude.{◌≡◌, ◌<◌, ◌≤◌, ℕ, List, drop, length, slice_index}
use Rattle.std.specs.List.{All}

-- This many bytes that are held are marked with a number: each has a mark then, and none has fallen. The bytes that had none have at least
-- this number, and no mark is above it and above all that there were. The first byte keeps its mark, whatever is added after it.
pub record MarksAll (held number : ℕ) (old new : List ℕ) : Type 0 where
  pub all : length new ≡ held
  pub none_falls : (place : ℕ) → place < length old → slice_index old place ≤ slice_index new place
  pub at_least : All (λ mark. number ≤ mark) (drop (length old) new)
  pub at_most : (most : ℕ) → number ≤ most → All (λ mark. mark ≤ most) old → All (λ mark. mark ≤ most) new
  pub first : 0 < length old → slice_index new 0 ≡ slice_index old 0
