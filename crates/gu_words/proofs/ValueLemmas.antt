-- If a parse of a command's words finds no fault, each value of a name passed that name's test.
use Rattle.std.proofs.Common.{◌≡◌, ◌+◌, ◌&&◌, ◌||◌, ◌++◌, ℕ, Bool, cond, true, false, not, zero, suc, refl, sym, ◌∙◌, subst, List, [], ◌∷◌, Option, Some, None, fold, is_some, unwrap_or, true≢false}
use Rattle.std.specs.Prelude.{⊤, IfSome, drop, min, encode_utf8, find, length, slice_get}
use Rattle.std.specs.List.{list_all}
use Rattle.std.specs.Option.{option_and_then, option_map_or}
use Rattle.std.specs.Str.{bytes_eq, chars}
use Rattle.clap.specs.Facts.{parser_of_value, unwrap_or_range}
use Rattle.std.proofs.lemmas.Bool.{not-true}
use Rattle.clap.proofs.WalkLemmas.{both}
use Rattle.clap.specs.Matches.{count_text}
use Rattle.clap.specs.Lexer.{long_of, short_of}
use Rattle.clap.specs.Faults.{action_fault, bundle_fault, bundle_step_fault, flag_word_fault, flags_fault, level_fault, long_fault, option_fault, other_fault, positional_fault, react_fault, settle_fault, short_fault, step_fault, stray_fault, turn_fault, use_fault, walk_fault, word_fault}
use Rattle.clap.specs.Kinds.{Kinds, or_else, range_kinds}
use Rattle.clap.specs.Simple.{Shape}
use Rattle.clap.specs.Takes.{value_passes}
use Rattle.clap.specs.Values.{refused_kind}
use Rattle.clap.specs.declared.builder.range.ValueRange.{ValueRange}
use Rattle.clap.specs.declared.error.kind.ErrorKind.{ErrorKind}
use Rattle.clap.specs.Walk.{Held, Names, Outcome, Row, Rule, Step, Text, Waiting, Walk, action_of, after_flag, after_step, arg_by_id, arg_by_index, arg_by_long, arg_by_short, attached_value, bundle, bundle_met, bundle_step, count_of, default_rows, done, first_of, flag_met, has_long, has_row, has_short, idle, is_pending, long_met, long_or_other, more_values, new_count, next, nothing_held, option, option_met, option_word, plain, plain_word, positional, reacted, reading_by, refused, rows_after, settled, settled_rows, short_met, short_or_plain, subcommand, subcommand_met, subcommand_or_other, takes_several, takes_values, to_positional, trailing, used, used_as, used_by_id, value, values_or_missing, waits, walk, walk_from, walked, walked_from, with_count, with_default, with_values, without, word_met}
use Rattle.clap.specs.declared.builder.action.ArgAction.{ArgAction}
use Rattle.clap.specs.declared.builder.action.ArgAction.TheVariants.{Append, Count, Help, HelpLong, HelpShort, Set, SetFalse, SetTrue, Version}
use Rattle.clap.specs.declared.error.kind.ErrorKind.TheVariants.{TooManyValues}
use Rattle.clap.specs.declared.parser.matches.ValueSource.{ValueSource}
use Rattle.clap.specs.declared.parser.matches.ValueSource.TheVariants.{CommandLine, DefaultValue}
use Rattle.clap.specs.declared.builder.value_parser.Reading.{Reading}

-- if no step fails, each passed
pub or_nil : (a b : Kinds) → or_else a b ≡ [] → (a ≡ []) × (b ≡ [])
or_nil [] b e = (refl, e)
or_nil (k ∷ ks) b e = (e, cc)

-- something holds of each item
abbrev pub Each : {X : Type 0} → (X → Type 0) → List X → Type 0
Each P [] = ⊤
Each P (x ∷ xs) = P x × Each P xs

-- what holds of each item holds of the one that is found
pub find_each : {X : Type 0} (P : X → Type 0) (q : X → Bool) (items : List X) → Each P items → (a : X) → find q items ≡ Some a → P a
find_each P q [] all a e = cc
find_each P q (x ∷ xs) all a e =
    elim (q x) as (λ (b : Bool). cond b (Some x) (find q xs) ≡ Some a → P a) [
      | true ↦ λ is. let same : x ≡ a = cc in subst P same all.0
      | false ↦ λ is. find_each P q xs all.1 a is
    ] e

-- the first of a rule's values passes
abbrev FirstPasses : Rule → List Text → Type 0
FirstPasses a [] = ⊥
FirstPasses a (v ∷ vs) = value_passes a v ≡ true

-- a test that gives no fault
accepted : (b : Bool) (k : ErrorKind) → cond b [] (k ∷ []) ≡ [] → b ≡ true
accepted true k none = refl
accepted false k none = cc

-- a use of a rule that takes one value, without fault
one_passes : (again : Bool) (a : Rule) (values : List Text) (rows : List Row) → action_of a ≡ Set → unwrap_or_range a.range ≡ record { start_inclusive = 1; end_inclusive = 1 } → use_fault again a values rows ≡ [] → FirstPasses a (values_or_missing a values)
one_passes again a [] rows is one none =
    let range = subst (λ (r : ValueRange). or_else (range_kinds r.start_inclusive r.end_inclusive 0) (action_fault (action_of a) again a (values_or_missing a []) rows) ≡ []) one none in
    let no : ⊥ = cc in
    absurd no
one_passes again a (v ∷ vs) rows is one none =
    let acts = (or_nil _ _ none).1 in
    let sets = subst (λ (x : ArgAction). action_fault x again a (v ∷ vs) rows ≡ []) is acts in
    let values = (or_nil _ _ sets).1 in
    accepted (value_passes a v) (refused_kind (parser_of_value a.parser)) (or_nil _ _ values).0

module _ (p : Text → Bool) (id : Text) where
  -- the first of the values passes
  abbrev pub IsGood : List Text → Type 0
  IsGood [] = ⊥
  IsGood (v ∷ vs) = p v ≡ true

  -- each row of the name has such values
  abbrev pub Sound : List Row → Type 0
  Sound rows = Each (λ r. bytes_eq r.id id ≡ true → IsGood r.values) rows

  -- no default, or one that passes
  abbrev pub DefaultsPass : List Text → Type 0
  DefaultsPass [] = ⊤
  DefaultsPass (v ∷ vs) = p v ≡ true

  -- further values leave the first as it is
  more_good : (xs ys : List Text) → IsGood xs → IsGood (xs ++ ys)
  more_good [] ys good = absurd good
  more_good (x ∷ xs) ys good = good

  -- more values of a name
  with_values_sound : (name : Text) (how : Reading) (source : ValueSource) (values : List Text) (rows : List Row) → (bytes_eq name id ≡ true → IsGood values) → Sound rows → Sound (with_values name how source values rows)
  with_values_sound name how source values [] good sound = (good, tt)
  with_values_sound name how source values (r ∷ rs) good sound =
      elim (bytes_eq r.id name) as (λ (b : Bool). Sound (cond b (more_values source values r ++ rs) (r ∷ with_values name how source values rs))) [
        | true ↦ ((λ is. more_good r.values values (sound.0 is)), sound.1)
        | false ↦ (sound.0, with_values_sound name how source values rs good sound.1)
      ]

  -- a name is taken out
  without_sound : (name : Text) (rows : List Row) → Sound rows → Sound (without name rows)
  without_sound name [] sound = tt
  without_sound name (r ∷ rs) sound =
      elim (bytes_eq r.id name) as (λ (b : Bool). Sound (cond b ([] ++ rs) (r ∷ without name rs))) [
        | true ↦ sound.1
        | false ↦ (sound.0, without_sound name rs sound.1)
      ]

  -- a count of another name
  with_count_sound : (name : Text) (how : Reading) (source : ValueSource) (n : ℕ) (rows : List Row) → bytes_eq name id ≡ false → Sound rows → Sound (with_count name how source n rows)
  with_count_sound name how source n [] apart sound = ((λ same. absurd (true≢false (sym same ∙ apart))), tt)
  with_count_sound name how source n (r ∷ rs) apart sound =
      elim (bytes_eq r.id name) as (λ (b : Bool). Sound (cond b (new_count source n r ++ rs) (r ∷ with_count name how source n rs))) [
        | true ↦ ((λ is. more_good r.values (count_text n ∷ []) (sound.0 is)), sound.1)
        | false ↦ (sound.0, with_count_sound name how source n rs apart sound.1)
      ]

  -- a use of another name
  other_sound : (x : ArgAction) (name : Text) (how : Reading) (values : List Text) (rows : List Row) → bytes_eq name id ≡ false → Sound rows → Sound (used_as x name how values rows)
  other_sound Set name how values rows apart sound = with_values_sound name how CommandLine values (without name rows) (λ same. absurd (true≢false (sym same ∙ apart))) (without_sound name rows sound)
  other_sound SetTrue name how values rows apart sound = with_values_sound name how CommandLine values (without name rows) (λ same. absurd (true≢false (sym same ∙ apart))) (without_sound name rows sound)
  other_sound SetFalse name how values rows apart sound = with_values_sound name how CommandLine values (without name rows) (λ same. absurd (true≢false (sym same ∙ apart))) (without_sound name rows sound)
  other_sound Append name how values rows apart sound = with_values_sound name how CommandLine values rows (λ same. absurd (true≢false (sym same ∙ apart))) sound
  other_sound Count name how [] rows apart sound = with_count_sound name how CommandLine (min (count_of name rows + 1) 255) (without name rows) apart (without_sound name rows sound)
  other_sound Count name how (v ∷ vs) rows apart sound = with_values_sound name how CommandLine (v ∷ vs) (without name rows) (λ same. absurd (true≢false (sym same ∙ apart))) (without_sound name rows sound)
  other_sound Help name how values rows apart sound = sound
  other_sound HelpShort name how values rows apart sound = sound
  other_sound HelpLong name how values rows apart sound = sound
  other_sound Version name how values rows apart sound = sound

  -- the row of the name passes, if there is one
  pub first_passes : (rows : List Row) → Sound rows → has_row id rows ≡ true → p (unwrap_or (first_of id rows) []) ≡ true
  first_passes [] sound has = absurd (true≢false (sym has))
  first_passes (r ∷ rs) sound has =
      elim (bytes_eq r.id id) as (λ (b : Bool). bytes_eq r.id id ≡ b → (b || has_row id rs) ≡ true → p (unwrap_or (option_and_then (λ (x : Row). slice_get x.values 0) (cond b (Some r) (find (λ (x : Row). bytes_eq x.id id) rs))) []) ≡ true) [
        | true ↦ λ is here. first_good r.values (sound.0 is)
        | false ↦ λ is there. first_passes rs sound.1 there
      ] refl has
    where
      first_good : (values : List Text) → IsGood values → p (unwrap_or (slice_get values 0) []) ≡ true
      first_good [] good = absurd good
      first_good (v ∷ vs) good = good

  -- the value of the name passes, if it is given
  pub given_passes : (rows : List Row) → Sound rows → IfSome (first_of id rows) (λ v. p v ≡ true)
  given_passes [] sound = tt
  given_passes (r ∷ rs) sound =
      elim (bytes_eq r.id id) as (λ (b : Bool). bytes_eq r.id id ≡ b → IfSome (option_and_then (λ (x : Row). slice_get x.values 0) (cond b (Some r) (find (λ (x : Row). bytes_eq x.id id) rs))) (λ v. p v ≡ true)) [
        | true ↦ λ is. first_given r.values (sound.0 is)
        | false ↦ λ is. given_passes rs sound.1
      ] refl
    where
      first_given : (values : List Text) → IsGood values → IfSome (slice_get values 0) (λ v. p v ≡ true)
      first_given [] good = tt
      first_given (v ∷ vs) good = good

  module _ (s : Shape) where
    -- a use of the rule that has no fault leaves each row sound
    abbrev pub Keeps : Rule → Type 0
    Keeps a = (values : List Text) (rows : List Row) → use_fault s.args_override_self a values rows ≡ [] → Sound rows → Sound (used a values rows)

    -- and so does its default
    abbrev pub KeepsDefault : Rule → Type 0
    KeepsDefault a = (rows : List Row) → Sound rows → Sound (with_default rows a)

    -- so does what was found
    abbrev IsKept : Option Rule → Type 0
    IsKept found = (a : Rule) → found ≡ Some a → Keeps a

    -- a use of what was found, if anything
    used_sound : (found : Option Rule) (values : List Text) (rows : List Row) → IsKept found → option_map_or (λ (a : Rule). use_fault s.args_override_self a values rows) found [] ≡ [] → Sound rows → Sound (used_by_id found values rows)
    used_sound None values rows kept none sound = sound
    used_sound (Some a) values rows kept none sound = kept a refl values rows none sound

    -- a word that is no flag
    plain_sound : (waiting : Waiting) (word : Text) (h : Held) → Sound h.rows → Sound (plain_word s.rules waiting word h).0.rows
    plain_sound idle word h sound = sound
    plain_sound (option name) word h sound = go (arg_by_id s.rules name)
      where
        go : (found : Option Rule) → Sound (option_word found name word h).0.rows
        go None = sound
        go (Some a) = sound
    plain_sound positional word h sound = sound

    -- what follows a flag
    after_flag_sound : (waiting : Waiting) (word : Text) (h : Held) (outcome : Outcome) → Sound h.rows → Sound (after_flag s.rules waiting word h outcome).0.rows
    after_flag_sound waiting word h done sound = sound
    after_flag_sound waiting word h (waits name) sound = sound
    after_flag_sound waiting word h plain sound = plain_sound waiting word h sound
    after_flag_sound waiting word h refused sound = plain_sound waiting word h sound

    module _ (kept : Each Keeps s.rules) where
      -- what a test finds is a rule of the command
      by_rule : (q : Rule → Bool) → IsKept (find q s.rules)
      by_rule q = find_each Keeps q s.rules kept

      -- what was pending is used
      settled_sound : (h : Held) → settle_fault s.rules s.args_override_self h ≡ [] → Sound h.rows → Sound (settled s.rules h).rows
      settled_sound h none sound = go h.pending none
        where
          go : (pending : Option (Text × List Text)) → option_map_or (λ (q : Text × List Text). option_map_or (λ (a : Rule). use_fault s.args_override_self a q.1 h.rows) (arg_by_id s.rules q.0) []) pending [] ≡ [] → Sound (settled_rows s.rules pending h.rows)
          go None none = sound
          go (Some q) none = used_sound (arg_by_id s.rules q.0) q.1 h.rows (by_rule (λ (a : Rule). bytes_eq a.id q.0)) none sound

      -- and then another rule
      react_sound : (a : Rule) (values : List Text) (h : Held) → Keeps a → react_fault s.rules s.args_override_self a values h ≡ [] → Sound h.rows → Sound (reacted s.rules a values h).rows
      react_sound a values h keeps none sound =
          let parts = or_nil _ _ none in
          keeps values (settled s.rules h).rows parts.1 (settled_sound h parts.0 sound)

      -- an option
      option_sound : (a : Rule) (v : Option Text) (h : Held) → Keeps a → option_fault s.rules s.args_override_self a v h ≡ [] → Sound h.rows → Sound (option_met s.rules a v h).0.rows
      option_sound a (Some v) h keeps none sound = react_sound a (v ∷ []) h keeps none sound
      option_sound a None h keeps none sound = settled_sound h none sound

      -- a long flag
      long_sound : (found : Option Rule) (v : Option Text) (h : Held) → IsKept found → long_fault s.rules s.args_override_self found v h ≡ [] → Sound h.rows → Sound (long_met s.rules found v h).0.rows
      long_sound None v h is_kept none sound = sound
      long_sound (Some a) v h is_kept none sound =
          elim (takes_values a) as (λ (b : Bool). cond b (option_fault s.rules s.args_override_self a v h) (cond (is_some v) (TooManyValues ∷ []) (react_fault s.rules s.args_override_self a [] h)) ≡ [] → Sound (cond b (option_met s.rules a v h) (flag_met s.rules a v h)).0.rows) [
            | true ↦ λ is. option_sound a v h (is_kept a refl) is sound
            | false ↦ λ is. flag v is
          ] none
        where
          flag : (v : Option Text) → cond (is_some v) (TooManyValues ∷ []) (react_fault s.rules s.args_override_self a [] h) ≡ [] → Sound (flag_met s.rules a v h).0.rows
          flag None is = react_sound a [] h (is_kept a refl) is sound
          flag (Some v) is = sound

      -- a short flag
      short_sound : (found : Option Rule) (rest : Text) (h : Held) (next_fault : Held → Kinds) (next_met : Held → Held × Outcome) → ((h : Held) → next_fault h ≡ [] → Sound h.rows → Sound (next_met h).0.rows)
          → IsKept found → short_fault s.rules s.args_override_self found rest h next_fault ≡ [] → Sound h.rows → Sound (short_met s.rules found rest h next_met).0.rows
      short_sound None rest h next_fault next_met then is_kept none sound = sound
      short_sound (Some a) rest h next_fault next_met then is_kept none sound =
          elim (takes_values a) as (λ (b : Bool). cond b (option_fault s.rules s.args_override_self a (attached_value rest) h) (or_else (react_fault s.rules s.args_override_self a [] h) (next_fault (reacted s.rules a [] h))) ≡ [] → Sound (cond b (option_met s.rules a (attached_value rest) h) (next_met (reacted s.rules a [] h))).0.rows) [
            | true ↦ λ is. option_sound a (attached_value rest) h (is_kept a refl) is sound
            | false ↦ λ is. let parts = or_nil _ _ is in then (reacted s.rules a [] h) parts.1 (react_sound a [] h (is_kept a refl) parts.0 sound)
          ] none

      -- a bundle of short flags
      flags_sound : (k : ℕ) (flags : Text) (skip : ℕ) (so_far : Outcome) (h : Held) → flags_fault s.rules s.args_override_self k flags skip h ≡ [] → Sound h.rows → Sound (bundle_met s.rules k flags skip so_far h).0.rows
      unfolding bundle_met flags_fault
      flags_sound zero flags skip so_far h none sound = sound
      flags_sound (suc k) flags skip so_far h none sound = go (slice_get (chars flags) 0) skip (flags_sound k) none
        where
          go : (x : Option ℕ) (skip : ℕ) → ((rest : Text) (less : ℕ) (so : Outcome) (h2 : Held) → flags_fault s.rules s.args_override_self k rest less h2 ≡ [] → Sound h2.rows → Sound (bundle_met s.rules k rest less so h2).0.rows) → bundle_step_fault s.rules s.args_override_self x flags skip h (flags_fault s.rules s.args_override_self k) ≡ [] → Sound (bundle_step s.rules x flags skip so_far h (bundle_met s.rules k)).0.rows
          go None skip below none = sound
          go (Some x) zero below none =
              let rest = drop (length (encode_utf8 x)) flags in
              short_sound (arg_by_short s.rules x) rest h (flags_fault s.rules s.args_override_self k rest 0) (bundle_met s.rules k rest 0 done) (below rest 0 done) (by_rule (λ (a : Rule). not (is_some a.index) && has_short a x)) none sound
          go (Some x) (suc skip) below none = below (drop (length (encode_utf8 x)) flags) skip so_far h none sound

      -- a word that may be a flag
      flag_word_sound : (long : Option (Text × Option Text)) (waiting : Waiting) (word : Text) (h : Held) → flag_word_fault s.rules s.args_override_self long word h ≡ [] → Sound h.rows → Sound (long_or_other s.rules waiting word long h).0.rows
      flag_word_sound (Some q) waiting word h none sound =
          let met = long_met s.rules (arg_by_long s.rules q.0) q.1 h in
          after_flag_sound waiting word met.0 met.1 (long_sound (arg_by_long s.rules q.0) q.1 h (by_rule (λ (a : Rule). not (is_some a.index) && has_long a q.0)) none sound)
      flag_word_sound None waiting word h none sound = go (short_of word) none
        where
          go : (short : Option Text) → option_map_or (λ (flags : Text). bundle_fault s.rules s.args_override_self flags h) short [] ≡ [] → Sound (short_or_plain s.rules waiting word short h).0.rows
          go (Some flags) none =
              let met = bundle s.rules flags h in
              after_flag_sound waiting word met.0 met.1 (flags_sound (length flags) flags h.skip plain (record h { skip = 0 }) none sound)
          go None none = plain_sound waiting word h sound

      -- a word, before it goes to a positional
      word_sound : (names : Names) (is_trailing : Bool) (waiting : Waiting) (position : ℕ) (word : Text) (h : Held) → word_fault s names is_trailing waiting word h ≡ [] → Sound h.rows → Sound (word_met s.rules names is_trailing waiting position word h).0.rows
      word_sound names true waiting position word h none sound = sound
      word_sound names false waiting position word h none sound = go (subcommand_met names waiting word) none
        where
          go : (met : Option Text) → other_fault s met word h ≡ [] → Sound (subcommand_or_other s.rules met waiting position word h).0.rows
          go (Some name) none = sound
          go None none =
              elim (bytes_eq word (45 ∷ 45 ∷ [])) as (λ (b : Bool). cond b [] (flag_word_fault s.rules s.args_override_self (long_of word) word h) ≡ [] → Sound (cond b (h, trailing position) (long_or_other s.rules waiting word (long_of word) h)).0.rows) [
                | true ↦ λ is. sound
                | false ↦ λ is. flag_word_sound (long_of word) waiting word h is sound
              ] none

      -- and after
      step_sound : (w : Walk) (word : Text) (h : Held) (step : Step) → step_fault s w.position h step ≡ [] → Sound h.rows → Sound (after_step s.rules word w h step).held.rows
      step_sound w word h (next waiting) none sound = sound
      step_sound w word h (trailing position) none sound = sound
      step_sound w word h (subcommand name) none sound = sound
      step_sound w word h value none sound = go (arg_by_index s.rules w.position) none
        where
          go : (found : Option Rule) → option_map_or (λ (a : Rule). positional_fault s.rules s.args_override_self a h) found (stray_fault s) ≡ [] → Sound (to_positional s.rules found word w h).held.rows
          go None none = sound
          go (Some a) none =
              elim (is_pending a h.pending && takes_several a) as (λ (b : Bool). cond b [] (settle_fault s.rules s.args_override_self h) ≡ [] → Sound (cond b h (settled s.rules h)).rows) [
                | true ↦ λ is. sound
                | false ↦ λ is. settled_sound h is sound
              ] none

      -- one word
      turn_sound : (names : Names) (w : Walk) (word : Text) → turn_fault s names w word ≡ [] → Sound w.held.rows → Sound (walked s.rules names w word).held.rows
      unfolding walked
      turn_sound names w word none sound = go w.stopped none
        where
          go : (stopped : Option (Text × List Text))
              → cond (is_some stopped) [] (or_else (word_fault s names w.is_trailing w.waiting word w.held)
              (step_fault s w.position (word_met s.rules names w.is_trailing w.waiting w.position word w.held).0 (word_met s.rules names w.is_trailing w.waiting w.position word w.held).1)) ≡ []
              → Sound (walked_from s.rules names stopped w word).held.rows
          go (Some q) none = sound
          go None none =
              let parts = or_nil _ _ none in
              let met = word_met s.rules names w.is_trailing w.waiting w.position word w.held in
              step_sound w word met.0 met.1 parts.1 (word_sound names w.is_trailing w.waiting w.position word w.held parts.0 sound)

      -- all of them
      walk_sound : (names : Names) (words : List Text) (w : Walk) → walk_fault s names w words ≡ [] → Sound w.held.rows → Sound (fold (walked s.rules names) w words).held.rows
      unfolding walk_fault
      walk_sound names [] w none sound = sound
      walk_sound names (word ∷ rest) w none sound =
          let parts = or_nil _ _ none in
          walk_sound names rest (walked s.rules names w word) parts.1 (turn_sound names w word parts.0 sound)

      -- the defaults of rules
      defaults_sound : (rules : List Rule) → Each KeepsDefault rules → (rows : List Row) → Sound rows → Sound (fold with_default rows rules)
      defaults_sound [] all rows sound = sound
      defaults_sound (a ∷ rest) all rows sound = defaults_sound rest all.1 (with_default rows a) (all.0 rows sound)

      -- the rows of a level that has no fault are sound
      pub level_sound : (words : List Text) → Each KeepsDefault s.rules → level_fault s [] nothing_held words false [] ≡ [] → Sound (rows_after s.rules [] words)
      level_sound words defaults none =
          let walks = or_nil _ _ none in
          let settles = or_nil _ _ walks.1 in
          let end = (walk s.rules [] nothing_held words).held in
          defaults_sound s.rules defaults (settled s.rules end).rows (settled_sound end settles.0 (walk_sound [] words (walk_from nothing_held) walks.0 tt))

    -- ---- the rules

    -- the rule of the name
    own_keeps : (a : Rule) → action_of a ≡ Set → unwrap_or_range a.range ≡ record { start_inclusive = 1; end_inclusive = 1 } → ((v : Text) → value_passes a v ≡ true → p v ≡ true) → Keeps a
    own_keeps a is one agrees values rows none sound =
        subst (λ (x : ArgAction). Sound (used_as x a.id (reading_by a) (values_or_missing a values) rows)) (sym is)
        (with_values_sound a.id (reading_by a) CommandLine (values_or_missing a values) (without a.id rows) (λ same. good (values_or_missing a values) (one_passes s.args_override_self a values rows is one none)) (without_sound a.id rows sound))
      where
        good : (values : List Text) → FirstPasses a values → IsGood values
        good [] passes = absurd passes
        good (v ∷ vs) passes = agrees v passes

    -- the rules of other names
    others_keep : (rules : List Rule) → list_all (λ a. not (bytes_eq a.id id)) rules ≡ true → Each Keeps rules
    others_keep [] apart = tt
    others_keep (a ∷ rest) apart =
        let parts = both _ _ apart in
        ((λ values rows none sound. other_sound (action_of a) a.id (reading_by a) (values_or_missing a values) rows (not-true _ parts.0) sound), others_keep rest parts.1)

    -- a default that passes, or one of another name
    default_sound : (a : Rule) → (bytes_eq a.id id ≡ true → DefaultsPass a.defaults) → KeepsDefault a
    default_sound a good rows sound =
        elim (has_row a.id rows) as (λ (b : Bool). Sound (cond b rows (default_rows a.id (reading_by a) a.defaults rows))) [
          | true ↦ sound
          | false ↦ go a.defaults good
        ]
      where
        go : (defaults : List Text) → (bytes_eq a.id id ≡ true → DefaultsPass defaults) → Sound (default_rows a.id (reading_by a) defaults rows)
        go [] good = sound
        go (d ∷ ds) good = with_values_sound a.id (reading_by a) DefaultValue (d ∷ ds) rows good sound

    -- the defaults of other names
    others_default : (rules : List Rule) → list_all (λ a. not (bytes_eq a.id id)) rules ≡ true → Each KeepsDefault rules
    others_default [] apart = tt
    others_default (a ∷ rest) apart =
        let parts = both _ _ apart in
        (default_sound a (λ same. absurd (true≢false (sym same ∙ not-true _ parts.0))), others_default rest parts.1)

    -- one rule among others
    among : (P : Rule → Type 0) (before after : List Rule) (own : Rule) → Each P before → P own → Each P after → Each P (before ++ own ∷ after)
    among P [] after own each is others = (is, others)
    among P (a ∷ rest) after own each is others = (each.0, among P rest after own each.1 is others)

    -- the rows of the words are sound, if the name has one rule, of one value that passes its test
    pub words_sound : (before after : List Rule) (own : Rule) → s.rules ≡ before ++ own ∷ after → list_all (λ a. not (bytes_eq a.id id)) before ≡ true → list_all (λ a. not (bytes_eq a.id id)) after ≡ true
        → action_of own ≡ Set → unwrap_or_range own.range ≡ record { start_inclusive = 1; end_inclusive = 1 } → ((v : Text) → value_passes own v ≡ true → p v ≡ true) → DefaultsPass own.defaults
        → (words : List Text) → level_fault s [] nothing_held words false [] ≡ [] → Sound (rows_after s.rules [] words)
    words_sound before after own is apart_before apart_after sets one agrees defaults words none =
        let keeps = among Keeps before after own (others_keep before apart_before) (own_keeps own sets one agrees) (others_keep after apart_after) in
        let keep_defaults = among KeepsDefault before after own (others_default before apart_before) (default_sound own (λ same. defaults)) (others_default after apart_after) in
        level_sound (subst (Each Keeps) (sym is) keeps) words (subst (Each KeepsDefault) (sym is) keep_defaults) none

  -- ---- rows that are there

  -- more values take no row away
  values_keep_row : (name : Text) (how : Reading) (source : ValueSource) (values : List Text) (rows : List Row) → has_row id rows ≡ true → has_row id (with_values name how source values rows) ≡ true
  values_keep_row name how source values [] has = absurd (true≢false (sym has))
  values_keep_row name how source values (r ∷ rs) has =
      elim (bytes_eq r.id name) as (λ (b : Bool). has_row id (cond b (more_values source values r ++ rs) (r ∷ with_values name how source values rs)) ≡ true) [
        | true ↦ has
        | false ↦ elim (bytes_eq r.id id) as (λ (b : Bool). (b || has_row id rs) ≡ true → (b || has_row id (with_values name how source values rs)) ≡ true) [
          | true ↦ λ here. refl
          | false ↦ λ there. values_keep_row name how source values rs there
        ] has
      ]

  -- values make a row
  values_make_row : bytes_eq id id ≡ true → (how : Reading) (source : ValueSource) (values : List Text) (rows : List Row) → has_row id (with_values id how source values rows) ≡ true
  values_make_row same how source values [] = rw same refl
  values_make_row same how source values (r ∷ rs) =
      elim (bytes_eq r.id id) as (λ (b : Bool). bytes_eq r.id id ≡ b → has_row id (cond b (more_values source values r ++ rs) (r ∷ with_values id how source values rs)) ≡ true) [
        | true ↦ λ is. rw is refl
        | false ↦ λ is. rw is (values_make_row same how source values rs)
      ] refl

  -- a default takes no row away
  default_keeps_row : (a : Rule) (rows : List Row) → has_row id rows ≡ true → has_row id (with_default rows a) ≡ true
  default_keeps_row a rows has =
      elim (has_row a.id rows) as (λ (b : Bool). has_row id (cond b rows (default_rows a.id (reading_by a) a.defaults rows)) ≡ true) [
        | true ↦ has
        | false ↦ go a.defaults
      ]
    where
      go : (defaults : List Text) → has_row id (default_rows a.id (reading_by a) defaults rows) ≡ true
      go [] = has
      go (d ∷ ds) = values_keep_row a.id (reading_by a) DefaultValue (d ∷ ds) rows has

  -- the rule of the name, which has a default
  default_makes_row : bytes_eq id id ≡ true → (a : Rule) (d : Text) (rows : List Row) → a.id ≡ id → a.defaults ≡ d ∷ [] → has_row id (with_default rows a) ≡ true
  default_makes_row same a d rows is default =
      let made : has_row id (cond (has_row id rows) rows (default_rows id (reading_by a) (d ∷ []) rows)) ≡ true =
      elim (has_row id rows) as (λ (b : Bool). has_row id rows ≡ b → has_row id (cond b rows (default_rows id (reading_by a) (d ∷ []) rows)) ≡ true) [
        | true ↦ λ has. has
        | false ↦ λ has. values_make_row same (reading_by a) DefaultValue (d ∷ []) rows
      ] refl in
      let named = subst (λ (name : Text). has_row id (cond (has_row name rows) rows (default_rows name (reading_by a) (d ∷ []) rows)) ≡ true) (sym is) made in
      subst (λ (ds : List Text). has_row id (cond (has_row a.id rows) rows (default_rows a.id (reading_by a) ds rows)) ≡ true) (sym default) named

  -- nor do several
  defaults_keep_row : (rules : List Rule) (rows : List Row) → has_row id rows ≡ true → has_row id (fold with_default rows rules) ≡ true
  defaults_keep_row [] rows has = has
  defaults_keep_row (a ∷ rest) rows has = defaults_keep_row rest (with_default rows a) (default_keeps_row a rows has)

  -- a name whose rule has a default, before others
  pub default_row : bytes_eq id id ≡ true → (before after : List Rule) (a : Rule) (d : Text) (rows : List Row) → a.id ≡ id → a.defaults ≡ d ∷ [] → has_row id (fold with_default rows (before ++ a ∷ after)) ≡ true
  default_row same [] after a d rows is default = defaults_keep_row after (with_default rows a) (default_makes_row same a d rows is default)
  default_row same (b ∷ rest) after a d rows is default = default_row same rest after a d (with_default rows b) is default
