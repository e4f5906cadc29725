use Rattle.gu_msgs.proofs.Words.{◌≡◌, ◌++◌, ◌∷◌, [], ℕ, List, length, take, drop, append_assoc, arith, ap, sym, append-nil, drop_at, length-append, take_at}
use Rattle.gu_msgs.proofs.moment_texts.joined.Goals as goal

-- twelve bytes to be overwritten
abbrev filler : List ℕ
filler = 45 ∷ 45 ∷ 45 ∷ 45 ∷ 45 ∷ 45 ∷ 45 ∷ 45 ∷ 45 ∷ 45 ∷ 45 ∷ 45 ∷ []

-- eight bytes, `-`, and the bytes written after them
written_after : (date time : List ℕ) → length date ≡ 8
    → take 9 (date ++ 45 ∷ filler) ++ (time ++ drop 12 (drop 9 (date ++ 45 ∷ filler))) ≡ (date ++ 45 ∷ []) ++ time
written_after date time eight =
    let front : List ℕ = date ++ 45 ∷ [] in
    let nine : length front ≡ 9 = omega (arith, length-append date (45 ∷ [])) in
    let split : date ++ 45 ∷ filler ≡ front ++ filler = sym (append_assoc date (45 ∷ []) filler) in
    rw (split, take_at front filler 9 nine, drop_at front filler 9 nine) (ap (λ (t : List ℕ). front ++ t) (append-nil time))

pub returns : goal.returns
returns c =
    let eight = rw c.copy_from_slice.ensures.after at c.copy_from_slice.ensures.len in
    rw (c.copy_from_slice-2.ensures.after, c.copy_from_slice.ensures.after) (written_after c.args.date c.args.time eight)
