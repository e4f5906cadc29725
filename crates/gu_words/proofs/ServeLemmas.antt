-- The numbers of the options of `serve`: if its words have no fault, each is within its range.
use Rattle.std.proofs.Common.{◌≡◌, ◌∙◌, ℕ, Bool, true, false, refl, sym, ap, subst, List, [], Option, Some, None, arith, codes, unwrap_or, true≢false}
use Rattle.std.specs.Prelude.{IfSome, drop, find, slice_get, take}
use Rattle.std.specs.Option.{option_map, option_map_or}
use Rattle.std.specs.Str.{bytes_eq}
use Rattle.clap.specs.Faults.{entered_fault, fault_of, level_fault, walk_fault}
use Rattle.clap.specs.Simple.{App, Shape, argument_words, built, entered, label_of, names_of, new_rule, rows_at, subcommand_of}
use Rattle.clap.specs.ValueTests.{is_unsigned_in}
use Rattle.clap.specs.Values.{IsUnsignedIn}
use Rattle.clap.specs.Walk.{Row, Rule, Text, answers_to, first_of, nothing_held, rows_after, settled, stop_after, walk, walk_from}
use Rattle.clap.specs.declared.builder.value_parser.ValueParser.TheVariants.{Unsigned}
use Rattle.clap.proofs.ValueTestLemmas.{accepts-Accepts}
use Rattle.gu_words.specs.CommandLine.{most_connections, program, serve_shape}
use Rattle.gu_words.specs.ProgramWords.{HasCounts, word_in}
use Rattle.gu_words.proofs.ValueLemmas.{Each, Sound, default_row, find_each, first_passes, given_passes, or_nil, words_sound}

-- a number of workers that passes
accepted_workers : (given : Option Text) → IfSome given (λ text. is_unsigned_in 1 60 text ≡ true) → IfSome given (IsUnsignedIn 1 60)
accepted_workers None passes = tt
accepted_workers (Some text) passes = accepts-Accepts false (Unsigned 1 60) text passes

-- as many as there may be are at most 1,024
most_within : (b : Bool) (text : Text) → IsUnsignedIn 1 (most_connections b) text → IsUnsignedIn 1 1024 text
most_within true text within = within
most_within false text within = (within.0, within.1, within.2, omega (arith, within.3))

module _ (goes_on : Bool) where
  -- how many connections there may be
  abbrev most : ℕ
  most = most_connections goes_on

  -- the command as it is when it reads words
  abbrev read_program : App
  read_program = built (program goes_on)

  -- its command `serve`
  abbrev served : Shape
  served = unwrap_or (slice_get read_program.subs 3) (serve_shape goes_on)

  -- the rule at a place of that command
  abbrev rule_at : ℕ → Rule
  rule_at place = unwrap_or (slice_get served.rules place) (new_rule [])

  -- the usual number of connections may be had
  usual_fits : (b : Bool) → is_unsigned_in 1 (most_connections b) (codes "8") ≡ true
  usual_fits true = refl
  usual_fits false = refl

  -- how many connections
  connections_sound : (words : List Text) → level_fault served [] nothing_held words false [] ≡ [] → Sound (is_unsigned_in 1 most) (codes "N") (rows_after served.rules [] words)
  connections_sound = words_sound (is_unsigned_in 1 most) (codes "N") served (take 3 served.rules) (drop 4 served.rules) (rule_at 3) refl refl refl refl refl (λ v passes. passes) (usual_fits goes_on)

  -- which give-ups are swept
  every_sound : (words : List Text) → level_fault served [] nothing_held words false [] ≡ [] → Sound (is_unsigned_in 0 1000) (codes "K") (rows_after served.rules [] words)
  every_sound = words_sound (is_unsigned_in 0 1000) (codes "K") served (take 4 served.rules) (drop 5 served.rules) (rule_at 4) refl refl refl refl refl (λ v passes. passes) refl

  -- how many workers, if a number is given
  workers_sound : (words : List Text) → level_fault served [] nothing_held words false [] ≡ [] → Sound (is_unsigned_in 1 60) (codes "W") (rows_after served.rules [] words)
  workers_sound = words_sound (is_unsigned_in 1 60) (codes "W") served (take 10 served.rules) (drop 11 served.rules) (rule_at 10) refl refl refl refl refl (λ v passes. passes) tt

  -- the share of a firm
  share_sound : (words : List Text) → level_fault served [] nothing_held words false [] ≡ [] → Sound (is_unsigned_in 1 100) (codes "PERCENT") (rows_after served.rules [] words)
  share_sound = words_sound (is_unsigned_in 1 100) (codes "PERCENT") served (take 14 served.rules) (drop 15 served.rules) (rule_at 14) refl refl refl refl refl (λ v passes. passes) refl

  -- the rows before the defaults
  abbrev given_rows : List Text → List Row
  given_rows words = (settled served.rules (walk served.rules [] nothing_held words).held).rows

-- ---- the program

module _ (goes_on : Bool) (rows : List Row) where
  -- a command without fault that is `serve` has its numbers
  abbrev Numbers : Shape → Type 0
  Numbers s = (words : List Text) → level_fault s [] nothing_held words false [] ≡ [] → rows_at s words ≡ (codes "serve", rows) → HasCounts rows

  -- any other command
  other_command : (s : Shape) → bytes_eq s.name (codes "serve") ≡ false → Numbers s
  other_command s other words none is =
      let named : bytes_eq s.name (codes "serve") ≡ true = ap (λ (at : Text × List Row). bytes_eq at.0 (codes "serve")) is in
      absurd (true≢false (sym named ∙ other))

  -- and `serve` itself
  serve_command : Numbers (served goes_on)
  serve_command words none is = subst HasCounts (ap (λ (at : Text × List Row). at.1) is) (record {
    connections = most_within goes_on (word_in (rows_after (served goes_on).rules [] words) (codes "N")) (accepts-Accepts false (Unsigned 1 (most goes_on)) (word_in (rows_after (served goes_on).rules [] words) (codes "N"))
        (first_passes (is_unsigned_in 1 (most goes_on)) (codes "N") (rows_after (served goes_on).rules [] words) (connections_sound goes_on words none)
        (default_row (is_unsigned_in 1 (most goes_on)) (codes "N") refl (take 3 (served goes_on).rules) (drop 4 (served goes_on).rules) (rule_at goes_on 3) (codes "8") (given_rows goes_on words) refl refl)));
    every = accepts-Accepts false (Unsigned 0 1000) (word_in (rows_after (served goes_on).rules [] words) (codes "K"))
        (first_passes (is_unsigned_in 0 1000) (codes "K") (rows_after (served goes_on).rules [] words) (every_sound goes_on words none)
        (default_row (is_unsigned_in 0 1000) (codes "K") refl (take 4 (served goes_on).rules) (drop 5 (served goes_on).rules) (rule_at goes_on 4) (codes "16") (given_rows goes_on words) refl refl));
    workers = accepted_workers (first_of (codes "W") (rows_after (served goes_on).rules [] words)) (given_passes (is_unsigned_in 1 60) (codes "W") (rows_after (served goes_on).rules [] words) (workers_sound goes_on words none));
    share = accepts-Accepts false (Unsigned 1 100) (word_in (rows_after (served goes_on).rules [] words) (codes "PERCENT"))
        (first_passes (is_unsigned_in 1 100) (codes "PERCENT") (rows_after (served goes_on).rules [] words) (share_sound goes_on words none)
        (default_row (is_unsigned_in 1 100) (codes "PERCENT") refl (take 14 (served goes_on).rules) (drop 15 (served goes_on).rules) (rule_at goes_on 14) (codes "100") (given_rows goes_on words) refl refl));
  })

  -- the command at a place
  abbrev sub_at : ℕ → Shape
  sub_at place = unwrap_or (slice_get (read_program goes_on).subs place) (serve_shape goes_on)

  -- every command of the program
  each_command : Each Numbers (read_program goes_on).subs
  each_command = (other_command (sub_at 0) refl, (other_command (sub_at 1) refl, (other_command (sub_at 2) refl, (serve_command, (other_command (sub_at 4) refl, (other_command (sub_at 5) refl, (other_command (sub_at 6) refl, tt)))))))

  -- the one that was found
  found_numbers : (words : List Text) (found : Option Shape) → ((s : Shape) → found ≡ Some s → Numbers s) → option_map_or (λ (s : Shape). level_fault s [] nothing_held words false []) found [] ≡ []
      → option_map (λ (s : Shape). rows_at s words) found ≡ Some (codes "serve", rows) → HasCounts rows
  found_numbers words None each none is =
      let no : ⊥ = cc in
      absurd no
  found_numbers words (Some s) each none is =
      let same : rows_at s words ≡ (codes "serve", rows) = cc in
      each s refl words none same

  -- the one that the words name
  entered_numbers : (stop : Option (Text × List Text)) → entered_fault (read_program goes_on) stop ≡ [] → entered (read_program goes_on) stop ≡ Some (codes "serve", rows) → HasCounts rows
  entered_numbers None none is =
      let no : ⊥ = cc in
      absurd no
  entered_numbers (Some q) none is =
      let named = λ (s : Shape). answers_to q.0 (label_of s) in
      found_numbers q.1 (find named (read_program goes_on).subs) (find_each Numbers named (read_program goes_on).subs each_command) none is

-- if the words of the program have no fault and ask for `serve`, the numbers of its options are within their ranges
pub numbers_read : (goes_on : Bool) (words : List Text) (rows : List Row) → fault_of (program goes_on) words ≡ [] → subcommand_of (program goes_on) words ≡ Some (codes "serve", rows) → HasCounts rows
numbers_read goes_on words rows none is =
    let after_name = argument_words (program goes_on) words in
    let stop = stop_after (read_program goes_on).top.rules (names_of (read_program goes_on)) after_name in
    let walks = or_nil (walk_fault (read_program goes_on).top (names_of (read_program goes_on)) (walk_from nothing_held) after_name) _ none in
    let enters = or_nil (entered_fault (read_program goes_on) stop) _ walks.1 in
    entered_numbers goes_on rows stop enters.0 is
