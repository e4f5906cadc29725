-- The words of a line, one after another.
use Rattle.std.proofs.Common.{◌≡◌, ◌≢◌, ◌↔◌, ◌+◌, ◌==◌, ◌∷◌, [], ◌∙◌, ℕ, Bool, true, false, not, List, Option, None, Some, IsTrue, zero, suc, nat_lt, length, take, drop, filter, position, refl, ap, arith}
use Rattle.std.specs.List.{slice_split, position_or_len}
use Rattle.std.proofs.lemmas.Bool.{cond-true}
use Rattle.std.proofs.lemmas.Option.{cond_some}
use Rattle.gu_text.specs.Words.{is_blank, is_blank_at, is_empty, words_of}
use Rattle.gu_text.proofs.Splits.{split_first, split_none}

-- leading spaces are no words
pub words_of-blank : (rest : List ℕ) → words_of (32 ∷ rest) ≡ words_of rest
words_of-blank rest = refl

-- a part that isn't empty is a word
pub kept : (part : List ℕ) (parts : List (List ℕ)) → part ≢ [] → filter (λ word. not (is_empty word)) (part ∷ parts) ≡ part ∷ filter (λ word. not (is_empty word)) parts
kept [] parts h = absurd (h refl)
kept (b ∷ part) parts h = refl

some_bytes : (text : List ℕ) (place : ℕ) → is_blank_at text 0 ≡ false → position is_blank text ≡ Some place → take place text ≢ []
some_bytes [] place front h = cc
some_bytes (b ∷ text) zero front h =
    let found = cond_some (nat_lt (position_or_len is_blank (b ∷ text)) (length (b ∷ text))) (position_or_len is_blank (b ∷ text)) 0 h in
    let front_is : not (is_blank b) ≡ true = rw front refl in
    let later : position_or_len is_blank (b ∷ text) ≡ 1 + position_or_len is_blank text = cond-true (not (is_blank b)) (1 + position_or_len is_blank text) 0 front_is in
    absurd (omega (arith, found.1, later))
some_bytes (b ∷ text) (suc place) front h = λ e. cc

-- the first word ends at the first space
pub word_in_front : (text : List ℕ) (place : ℕ) → is_blank_at text 0 ≡ false → position is_blank text ≡ Some place → words_of text ≡ take place text ∷ words_of (drop (place + 1) text)
word_in_front text place front h =
    ap (filter (λ word. not (is_empty word))) (split_first is_blank text place h)
    ∙ kept (take place text) (slice_split is_blank (drop (place + 1) text)) (some_bytes text place front h)

-- a text without spaces is one word
pub word_alone : (text : List ℕ) → text ≢ [] → position is_blank text ≡ None → words_of text ≡ text ∷ []
word_alone text some h = ap (filter (λ word. not (is_empty word))) (split_none is_blank text h) ∙ kept text [] some

more_than_none : (n : ℕ) → (suc n == 0) ≡ false
more_than_none n = grind arith

words_found : (text : List ℕ) (found : Option ℕ) → is_blank_at text 0 ≡ false → text ≢ [] → position is_blank text ≡ found → words_of text ≢ []
words_found text None front some h = λ e. let alone = word_alone text some h in cc
words_found text (Some place) front some h = λ e. let first = word_in_front text place front h in cc

-- a text without a leading space has words, unless it is empty
pub has_words : (text : List ℕ) (b : Bool) → is_blank_at text 0 ≡ false → b ≡ (length text == 0) → IsTrue (not b) ↔ (words_of text ≢ [])
has_words [] b front h = let e : b ≡ true = h in rw e ((λ no. cc), (λ some. absurd (some refl)))
has_words (first ∷ rest) b front h =
    let e : b ≡ false = h ∙ more_than_none (length rest) in
    rw e ((λ yes. words_found (first ∷ rest) (position is_blank (first ∷ rest)) front (λ same. cc) refl), (λ some. refl))
