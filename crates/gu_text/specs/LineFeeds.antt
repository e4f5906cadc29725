-- Lines of a text that is still arriving.
use Rattle.std.specs.Prelude.{◌≡◌, ◌≢◌, ℕ, ◌<◌, ◌==◌, List, [], ◌∷◌, ◌++◌, All, length}
use Rattle.std.specs.List.{slice_split}
use Rattle.std.specs.Str.Lines.{lines, strip_carriage_return}
use Rattle.gu_text.specs.Lines.{longest_line}

-- these bytes contain no LF
abbrev pub HasNoLineFeed : List ℕ → Type 0
HasNoLineFeed bytes = All (λ b. b ≢ 10) bytes

-- these are the bytes before the first LF and those after it
pub record IsParted (bytes front behind : List ℕ) : Type 0 where
  pub parts : bytes ≡ front ++ 10 ∷ behind
  pub first : HasNoLineFeed front

-- all but the last of the parts between LFs are ended by one, and a CR before it is dropped
abbrev pub ended_parts : List (List ℕ) → List (List ℕ)
ended_parts [] = []
ended_parts (last ∷ []) = []
ended_parts (part ∷ next ∷ others) = strip_carriage_return part ∷ ended_parts (next ∷ others)

-- the lines of a text that an LF ends: all but the last if that lacks its LF
abbrev pub ended_lines : List ℕ → List (List ℕ)
ended_lines text = ended_parts (slice_split (λ b. b == 10) text)

-- these lines of a text are ended and a rest is left: whatever follows the text, these lines come first, and then the lines of the rest
-- with what follows
pub record LeavesOpen (text : List ℕ) (ended : List (List ℕ)) (rest : List ℕ) : Type 0 where
  pub lines_are : (more : List ℕ) → lines (text ++ more) ≡ ended ++ lines (rest ++ more)
  pub ended_are : (more : List ℕ) → ended_lines (text ++ more) ≡ ended ++ ended_lines (rest ++ more)

-- whatever follows these bytes, their first line is longer than a line may be
abbrev pub IsTooLong : List ℕ → Type 0
IsTooLong bytes = (more : List ℕ) → (line : List ℕ) × (others : List (List ℕ)) × (lines (bytes ++ more) ≡ line ∷ others) × (longest_line < length line)
