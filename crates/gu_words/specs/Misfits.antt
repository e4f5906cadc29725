-- Words of `serve` that don't go together, and why words are refused.
use Rattle.std.specs.Prelude.{◌&&◌, ◌||◌, ℕ, Bool, false, not, is_some, List, [], ◌∷◌, codes, Option, Some, None, if◌then◌else◌, nat_lt}
use Rattle.std.specs.Option.{option_map_or}
use Rattle.std.specs.Str.{bytes_eq}
use Rattle.clap.specs.Kinds.{or_else}
use Rattle.clap.specs.ValueTests.{is_unsigned_in}
use Rattle.clap.specs.Words.{Kinds, Row, Text, fault_of, first_of}
use Rattle.clap.specs.declared.error.kind.ErrorKind.{ErrorKind}
use Rattle.clap.specs.declared.error.kind.ErrorKind.TheVariants.{ArgumentConflict, MissingRequiredArgument, ValueValidation}
use Rattle.gu_words.specs.CommandLine.{program, says_until_closed}
use Rattle.gu_words.specs.ProgramWords.{command_in, is_set, is_until_closed, number_of, port_word, word_in}
use Rattle.gu_words.specs.declared.misfit.Misfit.{Misfit}
use Rattle.gu_words.specs.declared.misfit.Misfit.TheVariants.{ManyConnections, NoConsole, NoDoors, NoJournal, NoSecrets, NotAPort, NotUntilClosed, OnePath}

-- the kind of the refusal that a misfit is
abbrev pub kind_of_misfit : Misfit → ErrorKind
kind_of_misfit NotAPort = ValueValidation
kind_of_misfit NoConsole = MissingRequiredArgument
kind_of_misfit NotUntilClosed = MissingRequiredArgument
kind_of_misfit ManyConnections = ValueValidation
kind_of_misfit OnePath = ArgumentConflict
kind_of_misfit NoJournal = MissingRequiredArgument
kind_of_misfit NoDoors = MissingRequiredArgument
kind_of_misfit NoSecrets = MissingRequiredArgument

-- a server has this option
abbrev pub has : List Row → Text → Bool
has rows name = is_some (first_of name rows)

-- two options are given, with one path
abbrev pub is_one_path : Option Text → Option Text → Bool
is_one_path (Some console) (Some watch) = bytes_eq console watch
is_one_path _ _ = false

-- a server has a port
abbrev pub has_port : List Row → Bool
has_port rows = is_some (port_word rows)

-- a word is a port
abbrev pub is_port : Text → Bool
is_port = is_unsigned_in 1 65535

-- the port that a word names, if it names one
abbrev pub port_of : Text → Option ℕ
port_of word = if is_port word then Some (number_of word) else None

-- the word given for a server's port isn't a port
abbrev pub has_bad_port : List Row → Bool
has_bad_port rows = option_map_or (λ word. not (is_port word)) (port_word rows) false

-- why the words of a server don't go together: the word for its port isn't one; one that runs until it is closed has no console to
-- which it can be; one that doesn't has a number of workers, or more than 32 connections; the console and the watch are one socket; a day
-- that goes on, or for which a desk stands by, has no journal; there is neither a port nor a door; or there are both, but no secrets
abbrev pub misfit_in : List Row → Option Misfit
misfit_in rows =
    if has_bad_port rows then Some NotAPort
    else if is_until_closed rows && not (has rows (codes "console")) then Some NoConsole
    else if not (is_until_closed rows) && has rows (codes "W") then Some NotUntilClosed
    else if not (is_until_closed rows) && nat_lt 32 (number_of (word_in rows (codes "N"))) then Some ManyConnections
    else if is_one_path (first_of (codes "console") rows) (first_of (codes "watch") rows) then Some OnePath
    else if (is_set rows (codes "resume") || is_set rows (codes "standby")) && not (has rows (codes "journal")) then Some NoJournal
    else if not (has_port rows) && not (has rows (codes "doors")) then Some NoDoors
    else if has_port rows && (has rows (codes "doors") && not (has rows (codes "secrets"))) then Some NoSecrets
    else None

-- the same for a command; only `serve` has such options
abbrev pub misfit_of : Option (Text × List Row) → Option Misfit
misfit_of None = None
misfit_of (Some command) = if bytes_eq command.0 (codes "serve") then misfit_in command.1 else None

-- the kinds of a refusal for a misfit
abbrev pub kinds_of : Option Misfit → Kinds
kinds_of None = []
kinds_of (Some misfit) = kind_of_misfit misfit ∷ []

-- the kinds of a refusal of words: those of a command line by itself, and else those of words that don't go together
abbrev pub refusals_of : List Text → Kinds
refusals_of words = or_else (fault_of (program (says_until_closed words)) words) (kinds_of (misfit_of (command_in words)))
