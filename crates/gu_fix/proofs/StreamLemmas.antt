-- Steps of the frames of a stream: garbled positions are skipped, and a message at the start is the first frame.
use Rattle.std.proofs.Common.{◌≡◌, ℕ, ◌+◌, ◌-◌, ◌≤◌, List, [], ◌∷◌, ◌++◌, length, drop, refl, sym, ap, subst, ◌∙◌, arith, inl, inr}
use Rattle.std.proofs.lemmas.List.{drop-drop, drop-append-le}
use Rattle.std.proofs.lemmas.Bool.{cases_lt}
use Rattle.gu_fix.specs.WholeMessage.{IsWhole}
use Rattle.gu_fix.specs.Stream.{Stands, IsOpen, IsGarbled, GarbledBefore, AreFrames}
use Rattle.gu_fix.proofs.WholeLemmas.{garbled-append}

-- a message at the start is the first frame
pub frames_whole : (m r : List ℕ) (fs : List (List ℕ)) → IsWhole m → AreFrames r fs → AreFrames (m ++ r) (m ∷ fs)
frames_whole m r fs w h = (r, record { place = 0; before = λ k l. absurd (omega arith); is_whole = w; parts = refl }, h)

-- more bytes don't change garbled positions
pub garbled_before-append : (s r : List ℕ) (n : ℕ) → n ≤ length s → GarbledBefore s n → GarbledBefore (s ++ r) n
garbled_before-append s r n l d k lt =
    let e = drop-append-le k s r (omega arith) in
    subst IsGarbled (sym e) (garbled-append (drop k s) r (d k lt))

-- n garbled positions, followed by more
pub garbled_before-then : (s : List ℕ) (n place : ℕ) → GarbledBefore s n → GarbledBefore (drop n s) place → GarbledBefore s (n + place)
garbled_before-then s n place d b k lt =
    elim (cases_lt k n) [
      | inl before ↦ d k before
      | inr after ↦
          let at : n + (k - n) ≡ k = omega arith in
          subst IsGarbled (drop-drop (k - n) n s ∙ ap (λ i. drop i s) at) (b (k - n) (omega arith))
    ]

-- garbled positions are skipped
pub frames_after : (s : List ℕ) (n : ℕ) (fs : List (List ℕ)) → GarbledBefore s n → AreFrames (drop n s) fs → AreFrames s fs
frames_after s n [] d none = record {
  place = n + none.place;
  before = garbled_before-then s n none.place d none.before;
  is_open = subst IsOpen (drop-drop none.place n s) none.is_open;
}
frames_after s n (m ∷ ms) d (rest, first, others) = (
  rest,
  record {
    place = n + first.place;
    before = garbled_before-then s n first.place d first.before;
    is_whole = first.is_whole;
    parts = sym (drop-drop first.place n s) ∙ first.parts;
  },
  others,
)

-- a message at the start
pub stands_at : (s m rest : List ℕ) → IsWhole m → s ≡ m ++ rest → Stands s
stands_at s m rest w e = record { message = m; rest = rest; is_whole = w; parts = e }
