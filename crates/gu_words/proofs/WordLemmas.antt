-- The words that ask for a task.
use Rattle.std.proofs.Common.{arith, ◌≡◌, ◌<◌, ◌≤◌, ◌^◌, ◌&&◌, not, cond, is_some, nat_lt, unwrap_or, subst, ℕ, Bool, List, [], ◌∷◌, codes, true, false, Option, Some, None, Result, Ok, Err, inl, inr, refl, sym, ap, ◌∙◌}
use Rattle.std.specs.Option.{option_map, option_map_or}
use Rattle.std.specs.Prelude.{IfOk, IfSome}
use Rattle.clap.specs.Words.{AddsArg, AddsSubcommand, App, IsUnsignedIn, Row, Rule, Shape, Text, app_of, all_of, first_of, is_simple_and_free, rule_of, shape_of, takes, with_rule, with_subcommand}
use Rattle.clap.specs.declared.builder.arg.Arg.{Arg}
use Rattle.clap.specs.declared.builder.command.Command.{Command}
use Rattle.std.specs.Borrow.{Bor}
use Rattle.clap.specs.Kinds.{FailsBy, HasKind, Kinds, or_else}
use Rattle.clap.specs.declared.builder.value_parser.ValueParser.TheVariants.{Unsigned}
use Rattle.clap.specs.declared.error.Error.{Error}
use Rattle.clap.proofs.OnLiterals.{clap_on_literals}
use Rattle.clap.proofs.ValueTestLemmas.{Accepts-accepts, accepts-Accepts}
use Rattle.std.proofs.Math.Nat.{lt_of_le_of_lt}
use Rattle.std.proofs.lemmas.Bool.{ltb-false, not-false}
use Rattle.std.specs.Str.Parse.{IsNumeral, digits_value, without_leading_plus}
use Rattle.gu_words.specs.CommandLine.{bare_program, check_shape, fix_shape, program, replay_shape, secret_shape, serve_shape, tell_shape}
use Rattle.gu_words.specs.Misfits.{has, has_bad_port, is_port, kinds_of, misfit_in, misfit_of, port_of, refusals_of}
use Rattle.gu_words.specs.declared.words.Task.{Task}
use Rattle.gu_words.specs.declared.misfit.Misfit.{Misfit}
use Rattle.gu_words.specs.declared.misfit.Misfit.TheVariants.{ManyConnections, NotAPort, NotUntilClosed}
use Rattle.gu_words.proofs.ValueLemmas.{or_nil}
use Rattle.gu_words.specs.ProgramWords.{Captures, Checks, Counts, Fixes, GoesOn, HasCounts, HasNumbers, IsCounted, IsWithin, Issues, Keeping, Lasting, Reads, Replays, Serves, Tells, Wanted, command_in, is_set, is_until_closed, keeping_by, lasting_by, number_of, port_word, served_by, text_of, told_by, wanted_by, wanted_in, wanted_of, wanted_of_command, word_in}

-- the program is one whose words clap describes in full
pub simple-program : (is_until_closed : Bool) → is_simple_and_free (program is_until_closed) ≡ true
unfolding clap_on_literals
simple-program true = refl
simple-program false = refl

-- the program's name alone is taken
pub takes-name : (name : List ℕ) → takes (program false) (name ∷ []) ≡ true
unfolding clap_on_literals
takes-name name = refl

-- the name and `check` are taken
pub takes-check : (name : List ℕ) → takes (program false) (name ∷ codes "check" ∷ []) ≡ true
unfolding clap_on_literals
takes-check name = refl

-- the name alone asks for trade capture
pub wanted_by-name : (name : List ℕ) → wanted_by (name ∷ []) ≡ Captures
unfolding clap_on_literals
wanted_by-name name = refl

-- and with `check` for the check
pub wanted_by-check : (name : List ℕ) → wanted_by (name ∷ codes "check" ∷ []) ≡ Checks
unfolding clap_on_literals
wanted_by-check name = refl

-- neither is refused
pub no_refusals-name : (name : List ℕ) → refusals_of (name ∷ []) ≡ []
unfolding clap_on_literals
no_refusals-name name = refl

-- the second
pub no_refusals-check : (name : List ℕ) → refusals_of (name ∷ codes "check" ∷ []) ≡ []
unfolding clap_on_literals
no_refusals-check name = refl

-- a task of this kind is read, if only memory may refuse it
pub read_unless_memory : (result : Result Task Error) (wanted : Wanted) → IfOk result (λ task. wanted_of task ≡ wanted) → FailsBy [] result → Reads result wanted
read_unless_memory (Ok task) wanted is fails = is
read_unless_memory (Err error) wanted is fails = elim fails [ inl memory ↦ memory | inr none ↦ absurd none ]

-- what one list of kinds has, it has with another after it
pub first_kinds : (first others : Kinds) (error : Error) → HasKind first error → HasKind (or_else first others) error
first_kinds [] others error has = elim has [ inl memory ↦ inl memory | inr none ↦ absurd none ]
first_kinds (kind ∷ kinds) others error has = has

-- the third of some tests that all fail
third_fails : (a b c others : Bool) → (a && (not b && (not c && others))) ≡ true → c ≡ false
third_fails true false false others all = refl
third_fails true false true others all = cc
third_fails true true c others all = cc
third_fails false b c others all = cc

-- a word is added to a command
pub word_added : (old new : Command) (word : Arg) (app : App) (rule : Rule) → AddsArg old word new → word.global ≡ false → rule_of word ≡ rule → app_of old ≡ app → app_of new ≡ with_rule app rule
word_added old new word app rule adds local is bare = adds.shape local ∙ ap (λ (a : App). with_rule a (rule_of word)) bare ∙ ap (with_rule app) is

-- a command with one word more is the last of its making
pub last_rule_added : {E : Type 0} (result : Result Command E) (old : Command) (word : Arg) (app : App) (rule : Rule) → app_of old ≡ app → word.global ≡ false → rule_of word ≡ rule
    → IfOk result (λ command. AddsArg old word command) → IfOk result (λ command. app_of command ≡ with_rule app rule)
last_rule_added (Ok command) old word app rule bare local is adds = word_added old command word app rule adds local is bare
last_rule_added (Err error) old word app rule bare local is adds = tt

-- its words alone
pub last_word_added : {E : Type 0} (result : Result Command E) (old : Command) (word : Arg) (app : App) (rule : Rule) → app_of old ≡ app → word.global ≡ false → rule_of word ≡ rule
    → IfOk result (λ command. AddsArg old word command) → IfOk result (λ command. shape_of command ≡ (with_rule app rule).top)
last_word_added (Ok command) old word app rule bare local is adds = ap (λ (a : App). a.top) (word_added old command word app rule adds local is bare)
last_word_added (Err error) old word app rule bare local is adds = tt

-- a command is added to the program
command_added : (old sub new : Command) (app : App) (shape : Shape) → AddsSubcommand old sub new → shape.is_plain ≡ true → shape_of sub ≡ shape → app_of old ≡ app → app_of new ≡ with_subcommand app shape
command_added old sub new app shape adds plain is bare =
    adds.shape (third_fails _ _ _ _ (ap (λ (s : Shape). s.is_plain) is ∙ plain))
    ∙ ap (λ (a : App). with_subcommand a (shape_of sub)) bare
    ∙ ap (with_subcommand app) is

-- a command that is added last
pub last_command_added : {E : Type 0} (result : Result Command E) (old sub : Command) (shape : Shape) → shape.is_plain ≡ true → shape_of sub ≡ shape
    → IfOk result (λ command. AddsSubcommand old sub command) → IfOk result (λ command. app_of command ≡ with_subcommand (app_of old) shape)
last_command_added (Ok command) old sub shape plain is adds = command_added old sub command (app_of old) shape adds plain is refl
last_command_added (Err error) old sub shape plain is adds = tt

-- the program with its commands
pub six_commands : {E : Type 0} (result : Result Command E) (bare one two three four five check : Command) (is_until_closed : Bool) → app_of bare ≡ bare_program
    → AddsSubcommand bare check one → shape_of check ≡ check_shape → app_of two ≡ with_subcommand (app_of one) fix_shape → app_of three ≡ with_subcommand (app_of two) replay_shape
    → app_of four ≡ with_subcommand (app_of three) (serve_shape is_until_closed) → app_of five ≡ with_subcommand (app_of four) tell_shape
    → IfOk result (λ command. app_of command ≡ with_subcommand (app_of five) secret_shape) → IfOk result (λ command. app_of command ≡ program is_until_closed)
six_commands (Ok command) bare one two three four five check is_until_closed is checks is_check fixes replays serves tells issues =
    let checking = command_added bare check one bare_program check_shape checks refl is_check is in
    let fixing = fixes ∙ ap (λ (a : App). with_subcommand a fix_shape) checking in
    let replaying = replays ∙ ap (λ (a : App). with_subcommand a replay_shape) fixing in
    let serving = serves ∙ ap (λ (a : App). with_subcommand a (serve_shape is_until_closed)) replaying in
    let telling = tells ∙ ap (λ (a : App). with_subcommand a tell_shape) serving in
    issues ∙ ap (λ (a : App). with_subcommand a secret_shape) telling
six_commands (Err error) bare one two three four five check is_until_closed is checks is_check fixes replays serves tells issues = tt

-- the command `fix`, with these rows, asks for a session
pub fixes : (sub : Option (Text × List Row)) (rows : List Row) (firm reference : Text) (script : Option Text) → option_map (λ (p : Text × List Row). p.0) sub ≡ Some (codes "fix") → option_map (λ (p : Text × List Row). p.1) sub ≡ Some rows
    → firm ≡ word_in rows (codes "FIRM") → reference ≡ word_in rows (codes "REF") → script ≡ first_of (codes "script") rows → Fixes firm reference script ≡ wanted_in sub
fixes None rows firm reference script name row is_firm is_reference is_script = cc
fixes (Some (name, found)) rows firm reference script is_name is_rows is_firm is_reference is_script =
    let named : name ≡ codes "fix" = cc in
    let same : found ≡ rows = cc in
    (λ i. Fixes (is_firm i) (is_reference i) (is_script i))
    ∙ ap (λ (rs : List Row). Fixes (word_in rs (codes "FIRM")) (word_in rs (codes "REF")) (first_of (codes "script") rs)) (sym same)
    ∙ ap (λ (n : Text). wanted_of_command n found) (sym named)

-- the command `replay`, for a script
pub replays : (sub : Option (Text × List Row)) (rows : List Row) (reference : Text) → option_map (λ (p : Text × List Row). p.0) sub ≡ Some (codes "replay") → option_map (λ (p : Text × List Row). p.1) sub ≡ Some rows
    → reference ≡ word_in rows (codes "REF") → Replays reference ≡ wanted_in sub
replays None rows reference name row is_reference = cc
replays (Some (name, found)) rows reference is_name is_rows is_reference =
    let named : name ≡ codes "replay" = cc in
    let same : found ≡ rows = cc in
    ap Replays is_reference
    ∙ ap (λ (rs : List Row). Replays (word_in rs (codes "REF"))) (sym same)
    ∙ ap (λ (n : Text). wanted_of_command n found) (sym named)

-- a word is given if its text is
pub is_some-text : (word : Option (Bor Text)) → is_some word ≡ is_some (text_of word)
is_some-text None = refl
is_some-text (Some word) = refl

-- the text of a word, or of another
pub unwrap_or-text : (word : Option (Bor Text)) (other : Bor Text) → (unwrap_or word other).now ≡ unwrap_or (text_of word) other.now
unwrap_or-text None other = refl
unwrap_or-text (Some word) other = refl

-- a word within bounds of two bytes is read
pub never_unread : (least most other : ℕ) (word : Text) → most < 2 ^ 16 → (IsNumeral 10 (without_leading_plus word) × (digits_value 10 (without_leading_plus word) < 2 ^ 16) → ⊥) → IsUnsignedIn least most word → other ≡ number_of word
never_unread least most other word fits none within = absurd (none (within.0, lt_of_le_of_lt within.3 fits))

-- the number of a name, by its word
pub numbered : (rows : List Row) (result least most : ℕ) (name word : Text) → (IsUnsignedIn least most word → result ≡ number_of word) → word ≡ word_in rows name → IsUnsignedIn least most (word_in rows name) → result ≡ number_of (word_in rows name)
numbered rows result least most name word means is within = means (subst (IsUnsignedIn least most) (sym is) within) ∙ ap number_of is

-- a number of a port is read
pub port_read : (word : Text) (number : ℕ) → IsNumeral 10 (without_leading_plus word) → number_of word < 2 ^ 16 → number ≡ number_of word → 1 ≤ number → Some number ≡ port_of word
port_read word number numeral fits is from_one =
    let within : IsUnsignedIn 1 65535 word = (numeral, omega (arith, fits), omega (arith, is, from_one), omega (arith, fits)) in
    rw (Accepts-accepts false (Unsigned 1 65535) word within) (ap Some is)

-- and nothing else is
pub no_port_read : (word : Text) → (IsNumeral 10 (without_leading_plus word) × (number_of word < 2 ^ 16) → ⊥) → None ≡ port_of word
no_port_read word none =
    elim (is_port word) as (λ (b : Bool). is_port word ≡ b → None ≡ cond b (Some (number_of word)) None) [
      | true ↦ λ is.
          let within = accepts-Accepts false (Unsigned 1 65535) word is in
          absurd (none (within.0, omega (arith, within.3)))
      | false ↦ λ is. refl
    ] refl

-- what `serve` asks for, word by word
pub asks_to_serve : (rows : List Row) (reference : Text) (port : Option ℕ) (script : Option Text) (lasting : Lasting) (every : ℕ) (journal : Option Keeping) (watch doors secrets : Option Text) (log : Bool) (share : ℕ)
    → reference ≡ word_in rows (codes "REF") → port ≡ option_map number_of (port_word rows) → script ≡ first_of (codes "script") rows
    → lasting ≡ lasting_by rows → every ≡ number_of (word_in rows (codes "K")) → journal ≡ keeping_by rows
    → watch ≡ first_of (codes "watch") rows → doors ≡ first_of (codes "doors") rows → secrets ≡ first_of (codes "secrets") rows
    → log ≡ is_set rows (codes "log") → share ≡ number_of (word_in rows (codes "PERCENT"))
    → Serves reference port script lasting every journal watch doors secrets log share ≡ served_by rows
asks_to_serve rows reference port script lasting every journal watch doors secrets log share a b c d e f g h k l m =
    λ i. Serves (a i) (b i) (c i) (d i) (e i) (f i) (g i) (h i) (k i) (l i) (m i)

-- a server that goes on until it is closed
pub goes_on : (rows : List Row) (console : Text) (places : ℕ) (workers : Option ℕ) → is_until_closed rows ≡ true → console ≡ word_in rows (codes "console")
    → places ≡ number_of (word_in rows (codes "N")) → workers ≡ option_map number_of (first_of (codes "W") rows) → GoesOn console places workers ≡ lasting_by rows
goes_on rows console places workers is a b c = rw is (λ i. GoesOn (a i) (b i) (c i))

-- a server of counted connections
pub counts : (rows : List Row) (connections : ℕ) (console : Option Text) → is_until_closed rows ≡ false → connections ≡ number_of (word_in rows (codes "N"))
    → console ≡ first_of (codes "console") rows → Counts connections console ≡ lasting_by rows
counts rows connections console is a b = rw is (λ i. Counts (a i) (b i))

-- the command `serve`, whose words may not go together
pub misfit_read : (sub : Option (Text × List Row)) (rows : List Row) (misfit : Option Misfit) → option_map (λ (p : Text × List Row). p.0) sub ≡ Some (codes "serve")
    → option_map (λ (p : Text × List Row). p.1) sub ≡ Some rows → (IsUnsignedIn 1 1024 (word_in rows (codes "N")) → misfit ≡ misfit_in rows) → IsCounted sub → misfit ≡ misfit_of sub
misfit_read None rows misfit name row asked within = cc
misfit_read (Some (name, found)) rows misfit is_name is_rows asked within =
    let named : name ≡ codes "serve" = cc in
    let same : found ≡ rows = cc in
    asked ((within rows (λ i. Some (named i, same i))).connections) ∙ ap misfit_in (sym same) ∙ ap (λ (n : Text). misfit_of (Some (n, found))) (sym named)

-- the command `serve`, for a server
pub serves : (sub : Option (Text × List Row)) (rows : List Row) (wanted : Wanted) → option_map (λ (p : Text × List Row). p.0) sub ≡ Some (codes "serve") → option_map (λ (p : Text × List Row). p.1) sub ≡ Some rows
    → (HasCounts rows → misfit_in rows ≡ None → wanted ≡ served_by rows) → IsCounted sub → misfit_of sub ≡ None → wanted ≡ wanted_in sub
serves None rows wanted name row asked within fits = cc
serves (Some (name, found)) rows wanted is_name is_rows asked within fits =
    let named : name ≡ codes "serve" = cc in
    let same : found ≡ rows = cc in
    let fitting : misfit_in rows ≡ None = ap misfit_in (sym same) ∙ ap (λ (n : Text). misfit_of (Some (n, found))) (sym named) ∙ fits in
    asked (within rows (λ i. Some (named i, same i))) fitting ∙ ap served_by (sym same) ∙ ap (λ (n : Text). wanted_of_command n found) (sym named)

-- the command `tell`, for lines
pub tells : (sub : Option (Text × List Row)) (rows : List Row) (path : Text) (lines : List Text) → option_map (λ (p : Text × List Row). p.0) sub ≡ Some (codes "tell")
    → option_map (λ (p : Text × List Row). p.1) sub ≡ Some rows → path ≡ word_in rows (codes "PATH") → lines ≡ unwrap_or (all_of (codes "LINE") rows) [] → Tells path lines ≡ wanted_in sub
tells None rows path lines name row is_path is_lines = cc
tells (Some (name, found)) rows path lines is_name is_rows is_path is_lines =
    let named : name ≡ codes "tell" = cc in
    let same : found ≡ rows = cc in
    (λ i. Tells (is_path i) (is_lines i)) ∙ ap told_by (sym same) ∙ ap (λ (n : Text). wanted_of_command n found) (sym named)

-- the command `secret`, for a firm
pub issues : (sub : Option (Text × List Row)) (rows : List Row) (firm : Text) → option_map (λ (p : Text × List Row). p.0) sub ≡ Some (codes "secret")
    → option_map (λ (p : Text × List Row). p.1) sub ≡ Some rows → firm ≡ word_in rows (codes "FIRM") → Issues firm ≡ wanted_in sub
issues None rows firm name row is_firm = cc
issues (Some (name, found)) rows firm is_name is_rows is_firm =
    let named : name ≡ codes "secret" = cc in
    let same : found ≡ rows = cc in
    ap Issues is_firm ∙ ap (λ (rs : List Row). Issues (word_in rs (codes "FIRM"))) (sym same) ∙ ap (λ (n : Text). wanted_of_command n found) (sym named)

-- a server whose words go together has no bad port
pub good_port : (rows : List Row) → misfit_in rows ≡ None → has_bad_port rows ≡ false
good_port rows fits = go (has_bad_port rows) _ fits
  where
    go : (bad : Bool) (others : Option Misfit) → cond bad (Some NotAPort) others ≡ None → bad ≡ false
    go true others is = cc
    go false others is = refl

-- a server that isn't closed, and whose words go together, has at most 32 connections
pub few_connections : (rows : List Row) → is_until_closed rows ≡ false → misfit_in rows ≡ None → IsUnsignedIn 1 1024 (word_in rows (codes "N")) → IsUnsignedIn 1 32 (word_in rows (codes "N"))
few_connections rows counted fits within = (within.0, within.1, within.2, ltb-false 32 _ (not_many counted fits))
  where
    no_more : (bad workers many : Bool) (others : Option Misfit) → cond bad (Some NotAPort) (cond workers (Some NotUntilClosed) (cond many (Some ManyConnections) others)) ≡ None → many ≡ false
    no_more true workers many others is = cc
    no_more false true many others is = cc
    no_more false false true others is = cc
    no_more false false false others is = refl

    not_many : is_until_closed rows ≡ false → misfit_in rows ≡ None → nat_lt 32 (number_of (word_in rows (codes "N"))) ≡ false
    not_many counted fits =
        no_more (has_bad_port rows) (has rows (codes "W")) (nat_lt 32 (number_of (word_in rows (codes "N")))) _ (rw counted at fits)

-- a word of a port that isn't bad is within its range
port_within : (word : Option Text) → option_map_or (λ w. not (is_port w)) word false ≡ false → IfSome word (IsUnsignedIn 1 65535)
port_within None good = tt
port_within (Some word) good = accepts-Accepts false (Unsigned 1 65535) word (not-false (is_port word) good)

-- the words of a server that go together have its numbers within their ranges
fitting_numbers : (sub : Option (Text × List Row)) (rows : List Row) → IsCounted sub → misfit_of sub ≡ None → sub ≡ Some (codes "serve", rows) → HasNumbers rows
fitting_numbers sub rows counted fits is =
    let fitting : misfit_in rows ≡ None = subst (λ (s : Option (Text × List Row)). misfit_of s ≡ None) is fits in
    record { port = port_within (port_word rows) (good_port rows fitting); counts = counted rows is }

-- words that a server is read from have its numbers within their ranges
pub within_where_read : {T : Type 0} (result : Result T Error) (words : List Text) → IsCounted (command_in words) → FailsBy (refusals_of words) result → IfOk result (λ _. IsWithin (command_in words))
within_where_read (Err error) words counted fails = tt
within_where_read (Ok value) words counted none = λ rows is. fitting_numbers (command_in words) rows counted (no_misfit (misfit_of (command_in words)) (or_nil _ _ none).1) is
  where
    no_misfit : (misfit : Option Misfit) → kinds_of misfit ≡ [] → misfit ≡ None
    no_misfit None none = refl
    no_misfit (Some misfit) none = cc
