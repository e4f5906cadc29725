-- The check of a sweep sheet: the verdict on it as a line, or its first bad line.
use Rattle.std.specs.Prelude.{◌≡◌, ℕ, ◌⊎◌, List, [], OnOk, Option, Result, Ok, Err}
use Rattle.std.specs.Io.KnownBytes.{Consumes, Appends, Keeps, IsAtEnd}
use Rattle.gu_streams.specs.Written.{WrotePart}
use Rattle.gu_text.specs.SheetPieces.{IsBadHowever}
use Rattle.gu_text.specs.Sheets.{IsSheet, Refuses}
use Rattle.gu_text.specs.Verdicts.{verdict_text}
use Rattle.gu_text.specs.declared.error.TextError.TheVariants as text_error
use Rattle.gu_text.specs.declared.sheet.Sheet.{Sheet}
use Rattle.gu_terms.specs.Takes.{lots_of}
use Rattle.gu_view.specs.Check.{verdict}
use Rattle.gu_view.specs.Takes.{IsGreatest}
use Rattle.gu_view.specs.declared.error.CutFault.{CutFault}
use Rattle.gu_streams.specs.Streams.{Streams}
use Rattle.gu_words.specs.declared.status.Status.{Status}
use Rattle.gu_words.specs.declared.status.Status.TheVariants.{Done, Fault}

-- all that the reader had is this sheet
pub record ReadsSheet (sheet : Sheet) (input_old input_new : Option (List ℕ)) : Type 0 where
  pub read : List ℕ
  pub consumed : Consumes input_old input_new read
  pub at_end : IsAtEnd input_new
  pub is_sheet : IsSheet read sheet

-- this is the first bad line of what was read, whatever may follow it, or else of all that the reader had
abbrev pub IsBadThere : List ℕ → Option (List ℕ) → ℕ → Type 0
IsBadThere read input number = IsBadHowever read number ⊎ (IsAtEnd input × Refuses read (text_error.BadLine number))

-- what was read has this bad line
pub record ReadsBadLine (number : ℕ) (input_old input_new : Option (List ℕ)) : Type 0 where
  pub read : List ℕ
  pub consumed : Consumes input_old input_new read
  pub bad : IsBadThere read input_new number

-- some text was read, all that the reader had or less
pub record ReadsPart (input_old input_new : Option (List ℕ)) : Type 0 where
  pub read : List ℕ
  pub consumed : Consumes input_old input_new read

-- a text is a sheet, and this is the verdict on its takes and its cut; takes that are right are greatest
pub record IsVerdictOn (text : List ℕ) (answer : Result ℕ CutFault) : Type 0 where
  pub sheet : Sheet
  pub is_sheet : IsSheet text sheet
  pub is_verdict : answer ≡ verdict sheet.view sheet.takes sheet.cut
  pub greatest : OnOk answer (IsGreatest sheet.view (lots_of sheet.takes))

-- the status after a verdict: done where the takes are right, and else a fault
abbrev pub status_after : Result ℕ CutFault → Status
status_after (Ok lots) = Done
status_after (Err fault) = Fault

-- all that the reader had is a sheet, the line of the verdict on it was written, and the status is the verdict's
pub record Checked (status : Status) (streams : Streams) : Type 0 where
  pub read : List ℕ
  pub answer : Result ℕ CutFault
  pub consumed : Consumes streams.input_old streams.input_new read
  pub at_end : IsAtEnd streams.input_new
  pub on_sheet : IsVerdictOn read answer
  pub appended : Appends streams.output_old streams.output_new (verdict_text answer)
  pub status_is : status ≡ status_after answer

-- what was read has this bad line, and nothing was written
pub record HasBadLine (number : ℕ) (streams : Streams) : Type 0 where
  pub bad_line : ReadsBadLine number streams.input_old streams.input_new
  pub nothing : Keeps streams.output_old streams.output_new

-- a line says nothing, or it is the line of the verdict on what was read, where this is all that the reader had
abbrev pub MaySay : List ℕ → Option (List ℕ) → List ℕ → Type 0
MaySay read input line =
    (line ≡ []) ⊎ (IsAtEnd input × (answer : Result ℕ CutFault) × IsVerdictOn read answer × (line ≡ verdict_text answer))

-- what was written is a prefix of such a line
pub record CheckedInPart (streams : Streams) : Type 0 where
  pub read : List ℕ
  pub line : List ℕ
  pub consumed : Consumes streams.input_old streams.input_new read
  pub says : MaySay read streams.input_new line
  pub wrote : WrotePart line streams.output_old streams.output_new
