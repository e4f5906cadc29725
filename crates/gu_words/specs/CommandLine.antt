-- The command line: the words that each command takes.
use Rattle.std.specs.Prelude.{true, false, Bool, ℕ, List, [], ◌∷◌, codes, drop, Some}
use Rattle.std.specs.List.{list_any}
use Rattle.std.specs.Str.{bytes_eq}
use Rattle.clap.specs.Lexer.{usize_max}
use Rattle.clap.specs.declared.builder.action.ArgAction.TheVariants.{SetTrue}
use Rattle.clap.specs.declared.builder.value_parser.ValueParser.{ValueParser}
use Rattle.clap.specs.declared.builder.value_parser.ValueParser.TheVariants.{Unsigned}
use Rattle.clap.specs.Words.{App, Rule, Shape, Text, new_app, new_rule, with_rule, with_subcommand}

-- a word that must come after a command
abbrev pub needed : Text → Rule
needed name = record (new_rule name) { required = true }

-- the path of a file or a socket, after the option of this name
abbrev pub path_rule : Text → Rule
path_rule name = record (new_rule name) { long = Some name; value_names = 1 }

-- an option whose value is a number in a range, with a default
abbrev pub number_rule : Text → Text → ValueParser → Text → Rule
number_rule name long numbers usual = record (new_rule name) { long = Some long; parser = Some numbers; defaults = usual ∷ [] }

-- how many connections a server may have: 32 in all, or 1,024 at once if it runs until it is closed
abbrev pub most_connections : Bool → ℕ
most_connections false = 32
most_connections true = 1024

-- how many connections a server has: 1 to the most, by default 8
abbrev pub connections_rule : ℕ → Rule
connections_rule most = number_rule (codes "N") (codes "connections") (Unsigned 1 most) (codes "8")

-- how many accepted give-ups of one connection make one sweep: 0 to 1,000, by default 16; 0 makes none
abbrev pub every_rule : Rule
every_rule = number_rule (codes "K") (codes "every") (Unsigned 0 1000) (codes "16")

-- an option of this name, without a value
abbrev pub flag_rule : Text → Rule
flag_rule name = record (new_rule name) { long = Some name; action = Some SetTrue }

-- how many threads serve the connections: 1 to 60, if a number is given
abbrev pub workers_rule : Rule
workers_rule = record (new_rule (codes "W")) { long = Some (codes "workers"); parser = Some (Unsigned 1 60) }

-- the percentage of the room that one firm may use: 1 to 100, by default 100
abbrev pub share_rule : Rule
share_rule = number_rule (codes "PERCENT") (codes "share") (Unsigned 1 100) (codes "100")

-- any number of lines
abbrev pub lines_rule : Rule
lines_rule = record (new_rule (codes "LINE")) { range = Some (record { start_inclusive = 0; end_inclusive = usize_max }) }

-- the command `check`, which takes no words
abbrev pub check_shape : Shape
check_shape = (new_app (codes "check")).top

-- the command `fix`, which takes a firm and the path of a reference, and perhaps that of a script
abbrev pub fix_shape : Shape
fix_shape = (with_rule (with_rule (with_rule (new_app (codes "fix")) (needed (codes "FIRM"))) (needed (codes "REF"))) (path_rule (codes "script"))).top

-- the command `replay`, which takes the path of a reference
abbrev pub replay_shape : Shape
replay_shape = (with_rule (new_app (codes "replay")) (needed (codes "REF"))).top

-- the words of `serve` for a day of counted connections: the path of a reference and a port, and options
abbrev pub counted_app : ℕ → App
counted_app most =
    with_rule (with_rule (with_rule (with_rule (with_rule (with_rule (with_rule (new_app (codes "serve")) (needed (codes "REF"))) (needed (codes "PORT")))
    (path_rule (codes "script"))) (connections_rule most)) every_rule) (path_rule (codes "journal"))) (flag_rule (codes "resume"))

-- with these, the sockets of those who operate and who watch, and a day that runs until it is closed
abbrev pub operated_app : Bool → App
operated_app is_until_closed =
    with_rule (with_rule (with_rule (with_rule (counted_app (most_connections is_until_closed)) (path_rule (codes "console")))
    (path_rule (codes "watch"))) (flag_rule (codes "until-closed"))) workers_rule

-- the command `serve`: with these, the folder of the firms' doors, the file of their secrets, a log, the share of a firm, and a desk that
-- stands by
abbrev pub serve_shape : Bool → Shape
serve_shape is_until_closed =
    (with_rule (with_rule (with_rule (with_rule (with_rule (operated_app is_until_closed) (path_rule (codes "doors"))) (path_rule (codes "secrets")))
    (flag_rule (codes "log"))) share_rule) (flag_rule (codes "standby"))).top

-- the command `tell`, which takes the path of a socket, and lines
abbrev pub tell_shape : Shape
tell_shape = (with_rule (with_rule (new_app (codes "tell")) (needed (codes "PATH"))) lines_rule).top

-- the command `secret`, which takes a firm
abbrev pub secret_shape : Shape
secret_shape = (with_rule (new_app (codes "secret")) (needed (codes "FIRM"))).top

-- the program's name, and that it has a version
abbrev pub bare_program : App
bare_program = record (new_app (codes "giveup")) { top = record (new_app (codes "giveup")).top { has_version = true } }

-- the program's command line, depending on whether a word makes the server run until it is closed
abbrev pub program : Bool → App
program is_until_closed =
    with_subcommand (with_subcommand (with_subcommand (with_subcommand (with_subcommand (with_subcommand bare_program check_shape) fix_shape) replay_shape)
    (serve_shape is_until_closed)) tell_shape) secret_shape

-- a word is `--until-closed`
abbrev pub has_until_closed : List Text → Bool
has_until_closed = list_any (λ word. bytes_eq word (codes "--until-closed"))

-- a word after the program's own name is
abbrev pub says_until_closed : List Text → Bool
says_until_closed words = has_until_closed (drop 1 words)
