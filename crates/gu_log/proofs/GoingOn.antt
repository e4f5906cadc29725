-- Texts that go on.
use Rattle.std.proofs.Common.{◌≡◌, ◌∙◌, ◌++◌, ◌∷◌, [], ℕ, List, ◌≤◌, ◌+◌, sym, ap, append_assoc, length, take, arith}
use Rattle.std.proofs.lemmas.List.Elements.{All-push, All-take}
use Rattle.std.proofs.lemmas.List.{append-nil, length-append}
use Rattle.std.proofs.Math.Seq.{take-append-add, take-append_seam}
use Rattle.gu_log.specs.Lines.{GoesOn, GoesOnByLine, IsShown}

-- a text goes on after itself
pub goes_on-self : (begun : List ℕ) → GoesOn begun begun
goes_on-self begun = record { more = []; same = sym (append-nil begun); shown = λ k d below. absurd (omega arith) }

-- a byte more
pub goes_on-push : (begun old new : List ℕ) (byte : ℕ) → new ≡ old ++ byte ∷ [] → IsShown byte → GoesOn begun old → GoesOn begun new
goes_on-push begun old new byte is shown on = record {
  more = on.more ++ byte ∷ [];
  same = is ∙ ap (λ (t : List ℕ). t ++ byte ∷ []) on.same ∙ append_assoc begun on.more (byte ∷ []);
  shown = All-push IsShown on.more byte on.shown shown;
}

-- what a text goes on after is its front
pub front_of : (begun text : List ℕ) → GoesOn begun text → take (length begun) text ≡ begun
front_of begun text on = ap (take (length begun)) on.same ∙ take-append_seam begun on.more

-- a text that goes on is as long as its beginning at least
pub goes_on-longer : (begun text : List ℕ) → GoesOn begun text → length begun ≤ length text
goes_on-longer begun text on =
    let whole : length text ≡ length begun + length on.more = ap (λ (t : List ℕ). length t) on.same ∙ length-append begun on.more in omega (arith, whole)

-- a text that goes on, cut some bytes after its beginning
pub goes_on-cut : (begun text : List ℕ) (n : ℕ) → GoesOn begun text → GoesOn begun (take (length begun + n) text)
goes_on-cut begun text n on = record {
  more = take n on.more;
  same = ap (take (length begun + n)) on.same ∙ take-append-add begun on.more n;
  shown = All-take IsShown n on.more on.shown;
}

-- one that isn't longer than a line, ended
pub ended_line : (begun text new : List ℕ) → GoesOn begun text → length text ≤ length begun + 4095 → new ≡ text ++ 10 ∷ [] → GoesOnByLine begun new
ended_line begun text new on short is = record {
  line = on.more;
  same = is ∙ ap (λ (t : List ℕ). t ++ 10 ∷ []) on.same;
  shown = on.shown;
  short = let whole : length text ≡ length begun + length on.more = ap (λ (t : List ℕ). length t) on.same ∙ length-append begun on.more in omega (arith, whole, short);
}
