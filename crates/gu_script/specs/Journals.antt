-- A day as a script: each entry of a history as the line that makes it.
use Rattle.std.specs.Prelude.{ℕ, List, [], ◌∷◌, ◌++◌, Option, Some, None, if◌then◌else◌}
use Rattle.std.specs.List.{flat_map}
use Rattle.std.specs.Option.{option_and_then, option_or}
use Rattle.gu_terms.specs.Same.{same_day}
use Rattle.gu_terms.specs.declared.command.Command.{Command}
use Rattle.gu_terms.specs.declared.command.Command.TheVariants.{OpenDay, ReportSide}
use Rattle.gu_terms.specs.declared.day.Day.{Day}
use Rattle.gu_terms.specs.declared.entry.Entry.{Entry}
use Rattle.gu_terms.specs.declared.entry.Entry.TheVariants.{Asked, Swept}
use Rattle.gu_rules.specs.Reports.{opened_day}
use Rattle.gu_world.specs.declared.step.Step.TheVariants.{Enter}
use Rattle.gu_text.specs.Texts.{line_of}
use Rattle.gu_text.specs.WrittenCommands.{IsWritableCommand, IsWritableSweep, command_words, remark_words, sweep_rows, undated}
use Rattle.gu_text.specs.declared.script_line.Line.{Line}
use Rattle.gu_text.specs.declared.script_line.Line.TheVariants as line

-- the day that a report names and the open day, if they differ
abbrev pub days_apart : Option Day → Command → Option (Day × Day)
days_apart (Some today) (ReportSide report) = option_and_then (λ day. if same_day today day then None else Some (day, today)) report.day
days_apart today command = None

-- the lines of a command, as words, given its two days if they differ: a script has no line for a report of another day than the open one,
-- so the report is a comment, followed by an opening of the day that is open, which is refused for its day as well
abbrev pub rows_apart : Command → Option (Day × Day) → List (List (List ℕ))
rows_apart command None = command_words command ∷ []
rows_apart command (Some days) = remark_words command days.0 ∷ command_words (OpenDay (record { day = days.1 })) ∷ []

-- the lines of an entry, as words, given the day that is open before it; a sweep is followed by its takes and its cut as comments
abbrev pub entry_rows : Option Day → Entry → List (List (List ℕ))
entry_rows today (Asked command reply) = rows_apart command (days_apart today command)
entry_rows today (Swept sweep) = sweep_rows sweep

-- the day that is open after an entry
abbrev pub open_after : Option Day → Entry → Option Day
open_after today entry = option_or (opened_day entry) today

-- the lines of entries, as words, given the day that is open before them
abbrev pub rows_after : Option Day → List Entry → List (List (List ℕ))
rows_after today [] = []
rows_after today (entry ∷ later) = entry_rows today entry ++ rows_after (open_after today entry) later

-- the journal of a history
abbrev pub journal_text : List Entry → List ℕ
journal_text history = flat_map line_of (rows_after None history)

-- the content of a command's line, given its two days if they differ
abbrev pub command_said : Command → Option (Day × Day) → Line
command_said command None = line.Step (Enter (undated command))
command_said command (Some days) = line.Step (Enter (OpenDay (record { day = days.1 })))

-- the content of an entry's line, given the day that is open before it
abbrev pub entry_said : Option Day → Entry → Line
entry_said today (Asked command reply) = command_said command (days_apart today command)
entry_said today (Swept sweep) = line.Sweep sweep.group

-- the content of the lines of entries, one after another, given the day that is open before them
abbrev pub said_after : Option Day → List Entry → List Line
said_after today [] = []
said_after today (entry ∷ later) = entry_said today entry ∷ said_after (open_after today entry) later

-- the invariants of an entry's types, and what scripts require besides: the values of its command or sweep can be written
abbrev pub IsWritableEntry : Entry → Type 0
IsWritableEntry (Asked command reply) = IsWritableCommand command
IsWritableEntry (Swept sweep) = IsWritableSweep sweep
