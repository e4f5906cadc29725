-- Lines of the log.
use Rattle.std.specs.Prelude.{◌≡◌, ℕ, ◌≤◌, ◌+◌, List, [], ◌∷◌, ◌++◌, All, length}

-- a byte that a line may have before its end: a blank, or a mark, digit or letter of ASCII
abbrev pub IsShown : ℕ → Type 0
IsShown byte = (32 ≤ byte) × (byte ≤ 126)

-- a text goes on after its beginning, by bytes that a line may have
pub record GoesOn (begun text : List ℕ) : Type 0 where
  pub more : List ℕ
  pub same : text ≡ begun ++ more
  pub shown : All IsShown more

-- from whatever beginning a text goes on so, a later one does
abbrev pub Continues : List ℕ → List ℕ → Type 0
Continues old new = (begun : List ℕ) → GoesOn begun old → GoesOn begun new

-- a text goes on after its beginning by one line: bytes that a line may have, and LF, at most 4,096
pub record GoesOnByLine (begun text : List ℕ) : Type 0 where
  pub line : List ℕ
  pub same : text ≡ begun ++ line ++ 10 ∷ []
  pub shown : All IsShown line
  pub short : length line + 1 ≤ 4096
