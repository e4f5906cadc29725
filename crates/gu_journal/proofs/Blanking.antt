-- What a crash leaves while a torn batch is blanked.
use Rattle.std.proofs.Common.{◌≡◌, ◌≢◌, ◌⊎◌, inl, inr, ⊎_elim, ℕ, zero, suc, ◌-◌, ◌≤◌, List, [], ◌∷◌, ◌++◌, length, replicate, drop, refl, sym, ◌∙◌, ap, subst, arith, append-nil, length-append, Some}
use Rattle.std.proofs.lemmas.List.{length-replicate}
use Rattle.std.proofs.lemmas.Bool.{cases_eq}
use Rattle.gu_journal.specs.Crashes.{Only}
use Rattle.gu_journal.specs.Device.{IsMix, Mixes, over, written}
use Rattle.gu_journal.specs.Log.{Finds, IsSettled}
use Rattle.gu_journal.specs.Text.{before_zero, found, text_of, torn_length, used_length, whole_lines}
use Rattle.gu_journal.specs.declared.sink.TheConstants.{MAX_BATCH}
use Rattle.gu_journal.proofs.Texts.{at_zero, at_byte, found-text, found_some, none_begun, text_no_zero, text_then, text_whole, text_of-append, text_of_unused, used-append_some, used_cons, used_more, used_none, used_on, used_rest, used_within}
use Rattle.gu_journal.proofs.Batches.{alike, length-over, written_after}
use Rattle.gu_journal.proofs.Settled.{settle}

-- each byte is the old one or 0
IsBlanked : List ℕ → List ℕ → Type 0
IsBlanked [] [] = Unit {0}
IsBlanked (old ∷ olds) (left ∷ lefts) = ((left ≡ old) ⊎ (left ≡ 0)) × IsBlanked olds lefts
IsBlanked olds lefts = ⊥

blanked_same : (olds lefts : List ℕ) → IsMix olds olds lefts → IsBlanked olds lefts
unfolding IsBlanked
blanked_same [] [] mix = tt
blanked_same [] (left ∷ lefts) mix = mix
blanked_same (old ∷ olds) [] mix = mix
blanked_same (old ∷ olds) (left ∷ lefts) mix = (⊎_elim (λ p. inl p) (λ p. inl p) mix.0, blanked_same olds lefts mix.1)

blanked : (k : ℕ) (olds lefts : List ℕ) → k ≤ length olds → IsMix olds (over (replicate k 0) olds) lefts → IsBlanked olds lefts
unfolding IsBlanked
blanked zero olds lefts fits mix = blanked_same olds lefts mix
blanked (suc k) [] lefts fits mix = absurd (omega arith)
blanked (suc k) (old ∷ olds) [] fits mix = mix
blanked (suc k) (old ∷ olds) (left ∷ lefts) fits mix = (mix.0, blanked k olds lefts (omega arith) mix.1)

used_first : (left old : ℕ) (lefts olds : List ℕ) → ((left ≡ old) ⊎ (left ≡ 0)) → used_length lefts ≤ used_length olds → used_length (left ∷ lefts) ≤ used_length (old ∷ olds)
used_first left old lefts olds is fewer = elim (cases_eq (used_length olds) 0) [
  | inl none ↦ elim (cases_eq left 0) [
    | inl zero_left ↦ omega (arith, used_none left lefts zero_left (omega (arith, fewer)))
    | inr isnt ↦
        let same : left ≡ old = ⊎_elim (λ p. p) (λ p. absurd (isnt p)) is in
        let old_isnt : old ≢ 0 = λ p. isnt (same ∙ p) in
        omega (arith, fewer, used_more left lefts isnt, used_more old olds old_isnt)
  ]
  | inr some ↦ omega (arith, fewer, used_cons left lefts, used_on old olds (omega arith))
]

blanked_used : (olds lefts : List ℕ) → IsBlanked olds lefts → used_length lefts ≤ used_length olds
unfolding IsBlanked
blanked_used [] [] is = omega arith
blanked_used [] (left ∷ lefts) is = absurd is
blanked_used (old ∷ olds) [] is = absurd is
blanked_used (old ∷ olds) (left ∷ lefts) is = used_first left old lefts olds is.0 (blanked_used olds lefts is.1)

-- the bytes before the first zero are a prefix of what they were
record Begins (olds lefts : List ℕ) : Type 0 where
  pub rest : List ℕ
  pub is : before_zero olds ≡ before_zero lefts ++ rest

blanked_begins : (olds lefts : List ℕ) → IsBlanked olds lefts → Begins olds lefts
unfolding IsBlanked
blanked_begins [] [] is = record { rest = []; is = refl }
blanked_begins [] (left ∷ lefts) is = absurd is
blanked_begins (old ∷ olds) [] is = absurd is
blanked_begins (old ∷ olds) (left ∷ lefts) is = elim (cases_eq left 0) [
  | inl zero_left ↦ record { rest = before_zero (old ∷ olds); is = ap (λ (l : List ℕ). l ++ before_zero (old ∷ olds)) (sym (at_zero left lefts zero_left)) }
  | inr isnt ↦
      let later = blanked_begins olds lefts is.1 in
      let same : left ≡ old = ⊎_elim (λ p. p) (λ p. absurd (isnt p)) is.0 in
      let old_isnt : old ≢ 0 = λ p. isnt (same ∙ p) in
      record {
        rest = later.rest;
        is = at_byte old olds old_isnt ∙ ap (λ (l : List ℕ). old ∷ l) later.is ∙ ap (λ (b : ℕ). b ∷ (before_zero lefts ++ later.rest)) (sym same)
            ∙ ap (λ (l : List ℕ). l ++ later.rest) (sym (at_byte left lefts isnt));
      }
]

blanked_text : (olds lefts : List ℕ) → IsBlanked olds lefts → text_of olds ≡ [] → text_of lefts ≡ []
blanked_text olds lefts is none =
    let begins = blanked_begins olds lefts is in
    none_begun (before_zero lefts) begins.rest (ap whole_lines (sym begins.is) ∙ none)

no_more : (xs ys : List ℕ) → xs ≡ xs ++ ys → ys ≡ []
no_more xs [] is = refl
no_more xs (y ∷ ys) is = absurd (omega (arith, ap length is, length-append xs (y ∷ ys)))

blank_unused : (k : ℕ) (olds : List ℕ) → used_length olds ≤ k → k ≤ length olds → used_length (over (replicate k 0) olds) ≡ 0
blank_unused zero olds unused fits = omega arith
blank_unused (suc k) [] unused fits = absurd (omega arith)
blank_unused (suc k) (old ∷ olds) unused fits = used_none 0 (over (replicate k 0) olds) refl (blank_unused k olds (omega (arith, used_rest old olds, unused)) (omega arith))

module _ (file : List ℕ) (at k : ℕ) (at_is : length (text_of file) ≡ at) (k_is : k ≡ torn_length file) (short : k ≤ MAX_BATCH) where
  abbrev text : List ℕ
  text = text_of file

  abbrev rest : List ℕ
  rest = drop (length text) file

  parts : file ≡ text ++ rest
  parts = sym (text_then file)

  rest_used : used_length rest ≤ k
  rest_used = omega (arith, used-append_some text rest, ap used_length parts, k_is)

  room : k ≤ length rest
  room = omega (arith, used_within file, ap length parts, length-append text rest, k_is)

  rest_text : text_of rest ≡ []
  rest_text = no_more text (text_of rest) (ap text_of parts ∙ text_of-append text rest (text_no_zero file) (text_whole file))

  -- the text is found
  pub finds_blanked : (c : List ℕ) → Mixes at (replicate k 0) file c → Finds text c
  finds_blanked c mix =
      let mixed = subst (λ (f : List ℕ). IsMix f (written at (replicate k 0) f) c) parts mix in
      let both = alike text rest (over (replicate k 0) rest) c (subst (λ (f : List ℕ). IsMix (text ++ rest) f c) (written_after text rest (replicate k 0) at at_is) mixed) in
      let is = blanked k rest both.rest room both.mix in
      ap found both.left_is ∙ found-text text both.rest (text_no_zero file) (text_whole file) (omega (arith, blanked_used rest both.rest is, rest_used, short))
      ∙ ap (λ (l : List ℕ). Some (text ++ l)) (blanked_text rest both.rest is rest_text) ∙ ap (λ (l : List ℕ). Some l) (append-nil text)

  -- followed by zeros
  module _ (file' : List ℕ) (is : file' ≡ written at (replicate k 0) file) where
    whole : file' ≡ text ++ over (replicate k 0) rest
    whole = is ∙ ap (λ (l : List ℕ). written at (replicate k 0) l) parts ∙ written_after text rest (replicate k 0) at at_is

    pub blanked_kept : text_of file' ≡ text
    blanked_kept = ap text_of whole ∙ text_of_unused text (over (replicate k 0) rest) (text_no_zero file) (text_whole file) (blank_unused k rest rest_used room)

    pub blanked_settled : (outcomes' : List ℕ → Type 0) (len : ℕ) → length file ≡ len → Only file' outcomes' → IsSettled file' outcomes' at len
    blanked_settled outcomes' len len_is only =
        let size : length (over (replicate k 0) rest) ≡ len - at =
        let zeros : length (replicate {A = ℕ} k 0) ≤ length rest = omega (arith, room, length-replicate {A = ℕ} k 0) in
        omega (arith, length-over (replicate {A = ℕ} k 0) rest zeros, ap length parts, length-append text rest, at_is, len_is) in
        settle text (over (replicate k 0) rest) file' outcomes' at len (text_no_zero file) (text_whole file) (blank_unused k rest rest_used room) whole at_is size only

-- for a device whose bytes were read
module _ (file bytes words : List ℕ) (at torn len : ℕ) (same : bytes ≡ file) (finds : found bytes ≡ Some words) (at_is : length words ≡ at) (torn_is : torn ≡ torn_length bytes) where
  finds_file : Finds words file
  finds_file = ap found (sym same) ∙ finds

  words_are : text_of file ≡ words
  words_are = (found_some file words finds_file).0

  torn_are : torn ≡ torn_length file
  torn_are = torn_is ∙ ap torn_length same

  short : torn ≤ MAX_BATCH
  short = omega (arith, (found_some file words finds_file).1, torn_are)

  ends : length (text_of file) ≡ at
  ends = ap length words_are ∙ at_is

  pub finds_still : (c : List ℕ) → Mixes at (replicate torn 0) file c → found c ≡ found file
  finds_still c mix = finds_blanked file at torn ends torn_are short c mix ∙ ap (λ (l : List ℕ). Some l) words_are ∙ sym finds_file

  pub recovered_kept : (file' : List ℕ) → file' ≡ written at (replicate torn 0) file → text_of file' ≡ words
  recovered_kept file' is = blanked_kept file at torn ends torn_are short file' is ∙ words_are

  pub recovered_settled : (file' : List ℕ) → file' ≡ written at (replicate torn 0) file → (outcomes' : List ℕ → Type 0) → length bytes ≡ len → Only file' outcomes' → IsSettled file' outcomes' at len
  recovered_settled file' is outcomes' len_is only = blanked_settled file at torn ends torn_are short file' is outcomes' len (ap length (sym same) ∙ len_is) only
