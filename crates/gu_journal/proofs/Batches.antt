-- What a crash leaves of a batch written over zeros.
use Rattle.std.proofs.Common.{◌≡◌, inl, inr, ⊎_elim, ℕ, ◌≤◌, List, [], ◌∷◌, ◌++◌, length, drop, refl, sym, ◌∙◌, ap, subst, arith, append_assoc, Some}
use Rattle.std.proofs.lemmas.List.{take_at, drop_at}
use Rattle.std.proofs.lemmas.Bool.{cases_eq}
use Rattle.gu_journal.specs.Device.{IsMix, Mixes, over, written}
use Rattle.gu_journal.specs.Sink.{HasBegun}
use Rattle.gu_journal.specs.Text.{HasNoZero, IsWholeLines, before_zero, found, text_of, used_length, whole_lines}
use Rattle.gu_journal.specs.declared.sink.TheConstants.{MAX_BATCH}
use Rattle.gu_journal.proofs.Texts.{at_zero, at_byte, used_none, used_cons, unused_first, used_rest, lines_then, lines_whole, found-text}

-- a mix of two files with a common prefix has it too
pub record BeginsAlike (text olds news lefts : List ℕ) : Type 0 where
  pub rest : List ℕ
  pub left_is : lefts ≡ text ++ rest
  pub mix : IsMix olds news rest

pub alike : (text olds news lefts : List ℕ) → IsMix (text ++ olds) (text ++ news) lefts → BeginsAlike text olds news lefts
alike [] olds news lefts mix = record { rest = lefts; left_is = refl; mix = mix }
alike (byte ∷ text) olds news [] mix = absurd mix
alike (byte ∷ text) olds news (left ∷ lefts) mix =
    let later = alike text olds news lefts mix.1 in
    let is : left ≡ byte = ⊎_elim (λ p. p) (λ p. p) mix.0 in
    record { rest = later.rest; left_is = ap (λ (l : List ℕ). left ∷ l) later.left_is ∙ ap (λ (b : ℕ). b ∷ (text ++ later.rest)) is; mix = later.mix }

pub written_after : (text olds bytes : List ℕ) (at : ℕ) → length text ≡ at → written at bytes (text ++ olds) ≡ text ++ over bytes olds
written_after text olds bytes at at_is =
    ap (λ (l : List ℕ). l ++ over bytes (drop at (text ++ olds))) (take_at text olds at at_is) ∙ ap (λ (l : List ℕ). text ++ over bytes l) (drop_at text olds at at_is)

-- a prefix of the batch is left before the first zero, and at most the batch is used
pub record ShowsBegun (batch left : List ℕ) : Type 0 where
  pub sent : List ℕ
  pub unsent : List ℕ
  pub batch_is : batch ≡ sent ++ unsent
  pub shows : before_zero left ≡ sent
  pub used : used_length left ≤ length batch

unused_mix : (olds lefts : List ℕ) → used_length olds ≡ 0 → IsMix olds olds lefts → used_length lefts ≡ 0
unused_mix [] [] unused mix = refl
unused_mix [] (left ∷ lefts) unused mix = absurd mix
unused_mix (old ∷ olds) [] unused mix = absurd mix
unused_mix (old ∷ olds) (left ∷ lefts) unused mix =
    used_none left lefts (⊎_elim (λ p. p) (λ p. p) mix.0 ∙ unused_first old olds unused) (unused_mix olds lefts (omega (arith, used_rest old olds)) mix.1)

none_shown : (left : List ℕ) → used_length left ≡ 0 → before_zero left ≡ []
none_shown [] unused = refl
none_shown (byte ∷ rest) unused = at_zero byte rest (unused_first byte rest unused)

pub mix_shows : (batch olds lefts : List ℕ) → used_length olds ≡ 0 → IsMix olds (over batch olds) lefts → ShowsBegun batch lefts
mix_shows [] olds lefts unused mix =
    let none = unused_mix olds lefts unused mix in
    record { sent = []; unsent = []; batch_is = refl; shows = none_shown lefts none; used = omega (arith, none) }
mix_shows (byte ∷ batch) [] lefts unused mix = absurd mix
mix_shows (byte ∷ batch) (old ∷ olds) [] unused mix = absurd mix
mix_shows (byte ∷ batch) (old ∷ olds) (left ∷ lefts) unused mix =
    let later = mix_shows batch olds lefts (omega (arith, used_rest old olds)) mix.1 in
    let fits : used_length (left ∷ lefts) ≤ length (byte ∷ batch) = omega (arith, used_cons left lefts, later.used) in
    elim (cases_eq left 0) [
      | inl is ↦ record { sent = []; unsent = byte ∷ batch; batch_is = refl; shows = at_zero left lefts is; used = fits }
      | inr isnt ↦
          let same : left ≡ byte = ⊎_elim (λ p. absurd (isnt (p ∙ unused_first old olds unused))) (λ p. p) mix.0 in
          record {
            sent = left ∷ later.sent;
            unsent = later.unsent;
            batch_is = ap (λ (b : ℕ). b ∷ batch) (sym same) ∙ ap (λ (l : List ℕ). left ∷ l) later.batch_is;
            shows = at_byte left lefts isnt ∙ ap (λ (l : List ℕ). left ∷ l) later.shows;
            used = fits;
          }
    ]

-- zeros are left after a batch that is written over them
pub record Overwrites (batch file : List ℕ) : Type 0 where
  pub rest : List ℕ
  pub file_is : file ≡ batch ++ rest
  pub unused : used_length rest ≡ 0

pub overwritten : (batch olds : List ℕ) → used_length olds ≡ 0 → length batch ≤ length olds → Overwrites batch (over batch olds)
overwritten [] olds unused fits = record { rest = olds; file_is = refl; unused = unused }
overwritten (byte ∷ batch) [] unused fits = absurd (omega arith)
overwritten (byte ∷ batch) (old ∷ olds) unused fits =
    let later = overwritten batch olds (omega (arith, used_rest old olds)) (omega arith) in
    record { rest = later.rest; file_is = ap (λ (l : List ℕ). byte ∷ l) later.file_is; unused = later.unused }

pub length-over : (bytes olds : List ℕ) → length bytes ≤ length olds → length (over bytes olds) ≡ length olds
length-over [] olds fits = refl
length-over (byte ∷ bytes) [] fits = absurd (omega arith)
length-over (byte ∷ bytes) (old ∷ olds) fits = omega (arith, length-over bytes olds (omega arith))

-- what is found after a crash
pub begun : (text olds batch : List ℕ) (at : ℕ) (c : List ℕ) → HasNoZero text → IsWholeLines text → used_length olds ≡ 0 → length text ≡ at → length batch ≤ MAX_BATCH
    → Mixes at batch (text ++ olds) c → HasBegun text batch (found c)
begun text olds batch at c none whole unused at_is short mix =
    let both = alike text olds (over batch olds) c (subst (λ (f : List ℕ). IsMix (text ++ olds) f c) (written_after text olds batch at at_is) mix) in
    let shown = mix_shows batch olds both.rest unused both.mix in
    let lines = whole_lines shown.sent in
    let torn = drop (length lines) shown.sent in
    let text_is : text_of both.rest ≡ lines = ap whole_lines shown.shows in
    record {
      lines = lines;
      rest = torn ++ shown.unsent;
      batch_is = shown.batch_is ∙ ap (λ (l : List ℕ). l ++ shown.unsent) (sym (lines_then shown.sent)) ∙ append_assoc lines torn shown.unsent;
      whole = lines_whole shown.sent;
      outcome_is = ap found both.left_is ∙ found-text text both.rest none whole (omega (arith, shown.used, short)) ∙ ap (λ (l : List ℕ). Some (text ++ l)) text_is;
    }
