-- Runs of a script: what is read is answered line by line, up to the first bad line.
use Rattle.std.specs.Prelude.{◌≡◌, ℕ, ◌+◌, ◌⊎◌, List, ◌∷◌, ◌++◌, length, Option}
use Rattle.std.specs.Str.Lines.{lines}
use Rattle.std.specs.Io.KnownBytes.{Consumes, Appends, IsAtEnd}
use Rattle.gu_streams.specs.Written.{WrotePart}
use Rattle.gu_world.specs.Runs.{Course}
use Rattle.gu_text.specs.LineFeeds.{ended_lines}
use Rattle.gu_text.specs.Scripts.{IsBad}
use Rattle.gu_script.specs.Replaying.{IsTextOfLines}
use Rattle.gu_streams.specs.Streams.{Streams}

-- all that the reader had is a script that leads from one course to another, with this text
pub record IsPlayed (old : Course) (text : List ℕ) (new : Course) (input_old input_new : Option (List ℕ)) : Type 0 where
  pub read : List ℕ
  pub consumed : Consumes input_old input_new read
  pub at_end : IsAtEnd input_new
  pub of_lines : IsTextOfLines old (lines read) text new

-- the same, with some text
abbrev pub Played : Course → Course → Option (List ℕ) → Option (List ℕ) → Type 0
Played old new input_old input_new = (text : List ℕ) × IsPlayed old text new input_old input_new

-- the same, and exactly its text was written
pub record Replayed (old new : Course) (streams : Streams) : Type 0 where
  pub text : List ℕ
  pub all : IsPlayed old text new streams.input_old streams.input_new
  pub appended : Appends streams.output_old streams.output_new text

-- the lines ended in what was read are answered, and exactly their text was written
pub record ReplayedSoFar (old : Course) (streams : Streams) : Type 0 where
  pub read : List ℕ
  pub text : List ℕ
  pub last : Course
  pub consumed : Consumes streams.input_old streams.input_new read
  pub of_lines : IsTextOfLines old (ended_lines read) text last
  pub appended : Appends streams.output_old streams.output_new text

-- a script ends at its first bad line, which has this number, counted from 1; the text is that of the lines before it
pub record EndsAtBadLine (old : Course) (bytes text : List ℕ) (number : ℕ) : Type 0 where
  pub before : List (List ℕ)
  pub bad : List ℕ
  pub after : List (List ℕ)
  pub last : Course
  pub parts : lines bytes ≡ before ++ bad ∷ after
  pub number_is : number ≡ length before + 1
  pub is_bad : IsBad bad
  pub of_lines : IsTextOfLines old before text last

-- what was read ends at a bad line, whatever may follow it, or else it is all that the reader had
abbrev pub EndsThere : Course → List ℕ → Option (List ℕ) → List ℕ → ℕ → Type 0
EndsThere old read input text number =
    ((more : List ℕ) → EndsAtBadLine old (read ++ more) text number) ⊎ (IsAtEnd input × EndsAtBadLine old read text number)

-- what was read ends at this bad line
pub record HasBadLine (old : Course) (text : List ℕ) (number : ℕ) (input_old input_new : Option (List ℕ)) : Type 0 where
  pub read : List ℕ
  pub consumed : Consumes input_old input_new read
  pub ends : EndsThere old read input_new text number

-- the same, and exactly the text of the lines before it was written
pub record StopsAtBadLine (old : Course) (number : ℕ) (streams : Streams) : Type 0 where
  pub text : List ℕ
  pub has_bad_line : HasBadLine old text number streams.input_old streams.input_new
  pub appended : Appends streams.output_old streams.output_new text

-- these are the first of the lines ended in what was read; its last line counts too if it is all that the reader had
abbrev pub AreFirstLines : List ℕ → Option (List ℕ) → List (List ℕ) → Type 0
AreFirstLines read input first =
    (others : List (List ℕ)) × ((ended_lines read ≡ first ++ others) ⊎ (IsAtEnd input × (lines read ≡ first ++ others)))

-- what was written is a prefix of the text of the first lines of what was read
pub record ReplayedInPart (old : Course) (streams : Streams) : Type 0 where
  pub read : List ℕ
  pub first : List (List ℕ)
  pub text : List ℕ
  pub last : Course
  pub consumed : Consumes streams.input_old streams.input_new read
  pub are_first : AreFirstLines read streams.input_new first
  pub of_lines : IsTextOfLines old first text last
  pub wrote : WrotePart text streams.output_old streams.output_new
