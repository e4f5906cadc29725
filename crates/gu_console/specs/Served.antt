-- Lines of an operator, as their bytes come.
use Rattle.std.specs.Prelude.{◌≡◌, ℕ, ◌++◌, List, [], ◌∷◌, All, take}
use Rattle.std.specs.List.{flat_map}
use Rattle.std.specs.Str.Lines.{strip_carriage_return}
use Rattle.gu_ref.specs.Tables.{Tables}
use Rattle.gu_text.specs.LineFeeds.{HasNoLineFeed}
use Rattle.gu_console.specs.Answers.{AnswersLine, OperatorState, sent_as}
use Rattle.gu_console.specs.declared.said.Said.{Said}
use Rattle.gu_console.specs.declared.said.Said.TheVariants.{GoesOn, Closes}

-- what is answered of a line: without the CR at its end, and of one that is longer than any good line its first bytes, which are too long as well
abbrev pub line_kept : List ℕ → List ℕ
line_kept line = strip_carriage_return (take 1026 line)

-- lines as they come: an LF ends each
abbrev pub ended : List ℕ → List ℕ
ended line = line ++ 10 ∷ []

-- bytes are these lines and what comes after the last LF
pub record Parts (bytes : List ℕ) (lines : List (List ℕ)) (rest : List ℕ) : Type 0 where
  pub bytes_are : bytes ≡ flat_map ended lines ++ rest
  pub each : All HasNoLineFeed lines

-- lines are answered one after another, and none of them closes the day
abbrev pub AnswersEach : Tables → OperatorState → List (List ℕ) → List ℕ → OperatorState → Type 0
AnswersEach reference old [] text new = (text ≡ []) × (new ≡ old)
AnswersEach reference old (line ∷ later) text new =
    (first : List ℕ) × (rest : List ℕ) × (mid : OperatorState)
    × AnswersLine reference old (line_kept line) first GoesOn mid × (text ≡ sent_as GoesOn first ++ rest) × AnswersEach reference mid later rest new

-- of bytes that came, the lines that are ended are answered one after another
pub record Serves (reference : Tables) (old : OperatorState) (bytes : List ℕ) (text : List ℕ) (new : OperatorState) (rest : List ℕ) : Type 0 where
  pub lines : List (List ℕ)
  pub parts : Parts bytes lines rest
  pub none : HasNoLineFeed rest
  pub answers : AnswersEach reference old lines text new

-- of bytes that came, the lines are answered up to the one that closes the day
pub record ServesLast (reference : Tables) (old : OperatorState) (bytes : List ℕ) (text : List ℕ) (new : OperatorState) : Type 0 where
  pub lines : List (List ℕ)
  pub last : List ℕ
  pub rest : List ℕ
  pub parts : Parts bytes (lines ++ last ∷ []) rest
  pub before : List ℕ
  pub mid : OperatorState
  pub answers : AnswersEach reference old lines before mid
  pub answer : List ℕ
  pub closes : AnswersLine reference mid (line_kept last) answer Closes new
  pub text_is : text ≡ before ++ answer

-- what becomes of bytes that came, and of what waits for an LF: its first 1,026 bytes are kept
abbrev pub ServesBytes : Said → Tables → OperatorState → List ℕ → List ℕ → OperatorState → List ℕ → Type 0
ServesBytes GoesOn reference old bytes text new kept = (rest : List ℕ) × Serves reference old bytes text new rest × (kept ≡ take 1026 rest)
ServesBytes Closes reference old bytes text new kept = ServesLast reference old bytes text new
