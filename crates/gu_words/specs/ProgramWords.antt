-- What the words that the program is called with ask for.
use Rattle.std.specs.Prelude.{◌≡◌, ℕ, Bool, false, List, [], map, codes, Option, Some, None, unwrap_or, IfSome, Result, MatchResult, if◌then◌else◌}
use Rattle.std.specs.Option.{option_map, option_map_or}
use Rattle.std.specs.Str.{bytes_eq}
use Rattle.std.specs.Str.Parse.{digits_value, without_leading_plus}
use Rattle.std.specs.Borrow.{Bor}
use Rattle.clap.specs.Words.{IsUnsignedIn, Row, Text, all_of, first_of, subcommand_of, kind_of}
use Rattle.clap.specs.declared.error.Error.{Error}
use Rattle.clap.specs.declared.error.kind.ErrorKind.{ErrorKind}
use Rattle.clap.specs.declared.error.kind.ErrorKind.TheVariants.{OutOfMemory, DisplayHelp, DisplayVersion}
use Rattle.gu_words.specs.CommandLine.{program, says_until_closed}
use Rattle.gu_words.specs.declared.serving.Journal.{Journal}
use Rattle.gu_words.specs.declared.serving.Span.{Span}
use Rattle.gu_words.specs.declared.serving.Span.TheVariants.{Counted, UntilClosed}
use Rattle.gu_words.specs.declared.status.Status.{Status}
use Rattle.gu_words.specs.declared.status.Status.TheVariants.{Done, Refused}
use Rattle.gu_words.specs.declared.words.Task.{Task}
use Rattle.gu_words.specs.declared.words.Task.TheVariants.{Capture, Check, Fix, Replay, Secret, Serve, Tell}

-- how long a server may go on: for this many connections, perhaps with a console, or until it is closed at its console, with how many
-- connections at once, and perhaps a number of workers
pub data Lasting : Type 0 where
  Counts : (connections : ℕ) (console : Option Text) → Lasting
  GoesOn : (console : Text) (places : ℕ) (workers : Option ℕ) → Lasting

-- the file to which a server's day is written: its path, whether a day that is already in it is resumed, and whether the desk stands by
pub record Keeping : Type 0 where
  pub path : Text
  pub resumes : Bool
  pub stands_by : Bool

-- what words may ask for: trade capture, the check of a sheet, one session of a firm on the reference of a file, perhaps after a script,
-- a script on such a reference, a server on such a reference, lines for a server, or a secret for a firm. A server has perhaps a port, a
-- script that is run first, how long it goes on, which of its connections' give-ups are swept, and perhaps the file of its journal, the
-- socket at which it is watched, the folder of its firms' doors and the file of their secrets; it may write a log; and it has
-- the percentage that one firm may have of what there is room for
pub data Wanted : Type 0 where
  Captures : Wanted
  Checks : Wanted
  Fixes : (firm reference : Text) (script : Option Text) → Wanted
  Replays : (reference : Text) → Wanted
  Serves : (reference : Text) (port : Option ℕ) (script : Option Text) (lasting : Lasting) (every : ℕ) (journal : Option Keeping)
      (watch doors secrets : Option Text) (log : Bool) (share : ℕ) → Wanted
  Tells : (path : Text) (lines : List Text) → Wanted
  Issues : (firm : Text) → Wanted

-- the text of an option, if it is given
abbrev pub text_of : Option (Bor Text) → Option Text
text_of = option_map (λ word. word.now)

-- the file to which a server's day is written, if it is
abbrev pub keeping_of : Option Journal → Option Keeping
keeping_of = option_map (λ journal. record { path = journal.path.now; resumes = journal.resumes; stands_by = journal.stands_by })

-- how long a server goes on
abbrev pub lasting_of : Span → Lasting
lasting_of (Counted c) = Counts c.connections (text_of c.console)
lasting_of (UntilClosed u) = GoesOn u.console.now u.places u.workers

-- the socket of its operators
abbrev pub console_of : Span → Option (Bor Text)
console_of (Counted c) = c.console
console_of (UntilClosed u) = Some u.console

-- what a task does
abbrev pub wanted_of : Task → Wanted
wanted_of Capture = Captures
wanted_of Check = Checks
wanted_of (Fix firm reference script) = Fixes firm.now reference.now (text_of script)
wanted_of (Replay reference) = Replays reference.now
wanted_of (Serve s) =
    Serves s.reference.now s.port (text_of s.script) (lasting_of s.span) s.every (keeping_of s.journal)
    (text_of s.watch) (text_of s.doors) (text_of s.secrets) s.log s.share
wanted_of (Tell path lines) = Tells path.now (map (λ line. line.now) lines.items)
wanted_of (Secret firm) = Issues firm.now

-- the word that was given for a name
abbrev pub word_in : List Row → Text → Text
word_in rows name = unwrap_or (first_of name rows) []

-- the number that a word means
abbrev pub number_of : Text → ℕ
number_of word = digits_value 10 (without_leading_plus word)

-- an option without a value is given
abbrev pub is_set : List Row → Text → Bool
is_set rows name = option_map_or (λ word. bytes_eq word (codes "true")) (first_of name rows) false

-- the words ask for a server that runs until it is closed
abbrev pub is_until_closed : List Row → Bool
is_until_closed rows = is_set rows (codes "until-closed")

-- the word of a server's port, if it has one: `-` is none
abbrev pub port_word : List Row → Option Text
port_word rows = if bytes_eq (word_in rows (codes "PORT")) (codes "-") then None else Some (word_in rows (codes "PORT"))

-- the numbers of the options of `serve` are within their ranges; that the server of a counted day has at most 32 connections, `misfit_in`
-- says
pub record HasCounts (rows : List Row) : Type 0 where
  pub connections : IsUnsignedIn 1 1024 (word_in rows (codes "N"))
  pub every : IsUnsignedIn 0 1000 (word_in rows (codes "K"))
  pub workers : IfSome (first_of (codes "W") rows) (IsUnsignedIn 1 60)
  pub share : IsUnsignedIn 1 100 (word_in rows (codes "PERCENT"))

-- and so is its port, if it has one
pub record HasNumbers (rows : List Row) : Type 0 where
  pub port : IfSome (port_word rows) (IsUnsignedIn 1 65535)
  pub counts : HasCounts rows

-- how long a server goes on
abbrev pub lasting_by : List Row → Lasting
lasting_by rows =
    if is_until_closed rows
    then GoesOn (word_in rows (codes "console")) (number_of (word_in rows (codes "N"))) (option_map number_of (first_of (codes "W") rows))
    else Counts (number_of (word_in rows (codes "N"))) (first_of (codes "console") rows)

-- the file to which the day is written, if it is
abbrev pub keeping_by : List Row → Option Keeping
keeping_by rows = option_map (λ path. record { path = path; resumes = is_set rows (codes "resume"); stands_by = is_set rows (codes "standby") }) (first_of (codes "journal") rows)

-- what `serve` asks for
abbrev pub served_by : List Row → Wanted
served_by rows =
    Serves (word_in rows (codes "REF")) (option_map number_of (port_word rows)) (first_of (codes "script") rows) (lasting_by rows)
    (number_of (word_in rows (codes "K"))) (keeping_by rows) (first_of (codes "watch") rows) (first_of (codes "doors") rows)
    (first_of (codes "secrets") rows) (is_set rows (codes "log")) (number_of (word_in rows (codes "PERCENT")))

-- what `tell` asks for
abbrev pub told_by : List Row → Wanted
told_by rows = Tells (word_in rows (codes "PATH")) (unwrap_or (all_of (codes "LINE") rows) [])

-- what a subcommand asks for
abbrev pub wanted_of_command : Text → List Row → Wanted
wanted_of_command name rows =
    if bytes_eq name (codes "check") then Checks
    else if bytes_eq name (codes "fix")
    then Fixes (word_in rows (codes "FIRM")) (word_in rows (codes "REF")) (first_of (codes "script") rows)
    else if bytes_eq name (codes "replay") then Replays (word_in rows (codes "REF"))
    else if bytes_eq name (codes "serve") then served_by rows
    else if bytes_eq name (codes "tell") then told_by rows
    else if bytes_eq name (codes "secret") then Issues (word_in rows (codes "FIRM"))
    else Captures

-- if a command is `serve`, the numbers of its options are within their ranges
abbrev pub IsCounted : Option (Text × List Row) → Type 0
IsCounted command = (rows : List Row) → command ≡ Some (codes "serve", rows) → HasCounts rows

-- and so is its port, if it has one
abbrev pub IsWithin : Option (Text × List Row) → Type 0
IsWithin command = (rows : List Row) → command ≡ Some (codes "serve", rows) → HasNumbers rows

-- and trade capture without one
abbrev pub wanted_in : Option (Text × List Row) → Wanted
wanted_in None = Captures
wanted_in (Some command) = wanted_of_command command.0 command.1

-- the command that words name, the first of which is the program's own name, with its words
abbrev pub command_in : List Text → Option (Text × List Row)
command_in words = subcommand_of (program (says_until_closed words)) words

-- what words ask for
abbrev pub wanted_by : List Text → Wanted
wanted_by words = wanted_in (command_in words)

-- a task of this kind is read, unless memory ran out
abbrev pub Reads : Result Task Error → Wanted → Type 0
Reads result wanted = MatchResult result (λ task. wanted_of task ≡ wanted) (λ error. kind_of error ≡ OutOfMemory)

-- the status if the words ask for no task: done if they ask for help, otherwise refused
abbrev pub status_of : ErrorKind → Status
status_of DisplayHelp = Done
status_of DisplayVersion = Done
status_of _ = Refused
