-- Machinery: a script while it is read, piece by piece.
use Rattle.std.specs.Prelude.{◌≡◌, ℕ, ◌+◌, ◌⊎◌, List, [], ◌∷◌, ◌++◌, length, Option, Result, Ok, Err}
use Rattle.std.specs.Str.Lines.{lines}
use Rattle.std.specs.Io.KnownBytes.{Appends}
use Rattle.gu_streams.specs.Written.{WrotePart}
use Rattle.gu_world.specs.Runs.{Course}
use Rattle.gu_text.specs.LineFeeds.{HasNoLineFeed, LeavesOpen}
use Rattle.gu_text.specs.Scripts.{IsBad}
use Rattle.gu_text.specs.declared.error.TextError.{TextError}
use Rattle.gu_text.specs.declared.error.TextError.TheVariants as text_error
use Rattle.gu_script.specs.Replaying.{IsTextOfLines}
use Rattle.gu_script.specs.ScriptSteps.{AnswersLines}
use Rattle.gu_script.specs.declared.error.ScriptError.{ScriptError}
use Rattle.gu_script.specs.declared.error.ScriptError.TheVariants.{Memory, Write, BadLine}

-- a place in a script: the course of its steps, the number of lines done, and the bytes after the last LF
pub record Place : Type 0 where
  pub course : Course
  pub count : ℕ
  pub rest : List ℕ

-- a line: the bytes extended by its last part, or that part if there were none
abbrev pub whole_line : List ℕ → List ℕ → List ℕ
whole_line [] part = part
whole_line (first ∷ others) part = first ∷ others

-- the lines ended in these bytes are answered, and this is what is left of the bytes
pub record AnswersEnded (old : Place) (bytes text : List ℕ) (new : Place) (left : List ℕ) : Type 0 where
  pub ended : List (List ℕ)
  pub leaves : LeavesOpen bytes ended left
  pub of_lines : IsTextOfLines old.course ended text new.course
  pub count_is : new.count ≡ old.count + length ended

-- a piece is taken: the lines that it ends are answered, and the bytes after the last LF wait
pub record TakesPiece (old : Place) (piece text : List ℕ) (new : Place) : Type 0 where
  pub answers : AnswersEnded old (old.rest ++ piece) text new new.rest
  pub none : HasNoLineFeed new.rest

-- given what follows these bytes, their first line is bad
pub record BeginsBad (left more : List ℕ) : Type 0 where
  pub bad : List ℕ
  pub after : List (List ℕ)
  pub parts : lines (left ++ more) ≡ bad ∷ after
  pub is_bad : IsBad bad

-- a piece brings a bad line, and the lines before it are answered
pub record StopsInPiece (old : Place) (piece text : List ℕ) (number : ℕ) : Type 0 where
  pub before : List (List ℕ)
  pub left : List ℕ
  pub last : Course
  pub leaves : LeavesOpen (old.rest ++ piece) before left
  pub of_lines : IsTextOfLines old.course before text last
  pub bad : (more : List ℕ) → BeginsBad left more
  pub number_is : number ≡ old.count + length before + 1

-- the result for a piece and the output
abbrev pub AnswersPiece : Result (Unit {0}) TextError → Place → List ℕ → List ℕ → Place → List ℕ → Type 0
AnswersPiece (Ok _) old piece before new after = (text : List ℕ) × (after ≡ before ++ text) × TakesPiece old piece text new
AnswersPiece (Err (text_error.BadLine number)) old piece before new after =
    (text : List ℕ) × (after ≡ before ++ text) × StopsInPiece old piece text number
AnswersPiece (Err text_error.Memory) old piece before new after = Unit {0}

-- the last line is bad: it is the rest, and nothing more follows
pub record EndsBad (old : Place) (number : ℕ) : Type 0 where
  pub line : lines old.rest ≡ old.rest ∷ []
  pub is_bad : IsBad old.rest
  pub number_is : number ≡ old.count + 1

-- the result for the end and the output
abbrev pub AnswersEnd : Result (Unit {0}) TextError → Place → List ℕ → Course → List ℕ → Type 0
AnswersEnd (Ok _) old before new after = AnswersLines old.course (lines old.rest) before new after
AnswersEnd (Err (text_error.BadLine number)) old before new after = EndsBad old number × (after ≡ before)
AnswersEnd (Err text_error.Memory) old before new after = Unit {0}

-- the answers are written, and then a bad line is reported; if an allocation failed, nothing is written
abbrev pub Gives : Result (Unit {0}) TextError → Result (Unit {0}) ScriptError → List ℕ → Option (List ℕ) → Option (List ℕ) → Type 0
Gives (Ok _) (Ok _) text old new = Appends old new text
Gives (Ok _) (Err error) text old new = (error ≡ Write) × WrotePart text old new
Gives (Err text_error.Memory) (Ok _) text old new = ⊥
Gives (Err text_error.Memory) (Err error) text old new = (error ≡ Memory) × (new ≡ old)
Gives (Err (text_error.BadLine number)) (Ok _) text old new = ⊥
Gives (Err (text_error.BadLine number)) (Err error) text old new =
    ((error ≡ BadLine number) × Appends old new text) ⊎ ((error ≡ Write) × WrotePart text old new)

-- the bytes after the last LF are answered, and the answer is written
pub record Ended (result : Result (Unit {0}) ScriptError) (old : Place) (new : Course)
    (output_old output_new : Option (List ℕ)) : Type 0 where
  pub answered : Result (Unit {0}) TextError
  pub text : List ℕ
  pub answers : AnswersEnd answered old [] new text
  pub gives : Gives answered result text output_old output_new
