-- The steps of the scan.
use Rattle.std.proofs.Common.{◌≡◌, ℕ, zero, suc, ◌+◌, ◌-◌, ◌<◌, ◌≤◌, List, [], ◌∷◌, ◌++◌, length, take, drop, get_or, refl, sym, ap, subst, ◌∙◌, append_assoc, arith}
use Rattle.std.proofs.lemmas.List.{drop-drop, drop-append-le, take-append-drop, length-drop, get_or-drop}
use Rattle.gu_fix.specs.WholeMessage.{IsWhole, opening}
use Rattle.gu_fix.specs.Stream.{IsOpen, IsGarbled, GarbledBefore, IsFirstFrame, AreFrames, LeadsOn}
use Rattle.gu_fix.specs.Scans.{IsGarbledTo, IsMessageAt}
use Rattle.gu_fix.proofs.WholeLemmas.{garbled_unless_first, length-opening}
use Rattle.gu_fix.proofs.StreamLemmas.{frames_whole, frames_after, garbled_before-append, garbled_before-then}
use Rattle.gu_fix.proofs.Places.{open_in_opening}

-- the end of a stream is open
pub open_at_end : IsOpen []
open_at_end = open_in_opening [] opening (omega (arith, length-opening)) refl

-- a garbled position isn't the end
pub garbled_some : (bytes : List ℕ) → IsGarbled bytes → 0 < length bytes
garbled_some [] garbled = absurd (garbled.1 open_at_end)
garbled_some (b ∷ bs) garbled = omega arith

-- positions without an `8` after a garbled position are garbled
pub garbled_without_first : (bytes : List ℕ) (n : ℕ) → n ≤ length bytes → IsGarbled bytes → ((k : ℕ) → 0 < k → k < n → get_or bytes k 0 ≡ 56 → ⊥) → GarbledBefore bytes n
garbled_without_first bytes n room garbled other zero lt = garbled
garbled_without_first bytes n room garbled other (suc k) lt =
    garbled_unless_first (drop (suc k) bytes) (omega (arith, length-drop (suc k) bytes)) (λ e. other (suc k) (omega arith) lt (sym (get_or-drop (suc k) bytes 0 0 ∙ ap (λ i. get_or bytes i 0) (omega arith)) ∙ e))

-- there is a message at the position
pub leads_on_whole : (bytes : List ℕ) (given : List (List ℕ)) (at n : ℕ) → LeadsOn bytes given (drop at bytes) → n ≤ length (drop at bytes) → IsWhole (take n (drop at bytes))
    → LeadsOn bytes (given ++ take n (drop at bytes) ∷ []) (drop (at + n) bytes)
leads_on_whole bytes given at n leads room w more later h =
    let rest = drop at bytes in
    let m = take n rest in
    let behind : drop (at + n) bytes ≡ drop n rest = sym (drop-drop n at bytes) in
    let next : AreFrames (m ++ (drop n rest ++ more)) (m ∷ later) = frames_whole m (drop n rest ++ more) later w (subst (λ (t : List ℕ). AreFrames (t ++ more) later) behind h) in
    let same : m ++ (drop n rest ++ more) ≡ rest ++ more = sym (append_assoc m (drop n rest) more) ∙ ap (λ (t : List ℕ). t ++ more) (take-append-drop n rest) in
    subst (λ fs. AreFrames (bytes ++ more) fs) (sym (append_assoc given (m ∷ []) later)) (leads more (m ∷ later) (subst (λ (t : List ℕ). AreFrames t (m ∷ later)) same next))

-- positions are garbled
pub leads_on_garbled : (bytes : List ℕ) (given : List (List ℕ)) (at n : ℕ) → LeadsOn bytes given (drop at bytes) → n ≤ length (drop at bytes) → GarbledBefore (drop at bytes) n
    → LeadsOn bytes given (drop (at + n) bytes)
leads_on_garbled bytes given at n leads room garbled more later h =
    let rest = drop at bytes in
    let behind : drop (at + n) bytes ++ more ≡ drop n (rest ++ more) = ap (λ (t : List ℕ). t ++ more) (sym (drop-drop n at bytes)) ∙ sym (drop-append-le n rest more room) in
    leads more later (frames_after (rest ++ more) n later (garbled_before-append rest more n room garbled) (subst (λ (t : List ℕ). AreFrames t later) behind h))

-- ---- what comes next

-- garbled positions, followed by more of them
pub garbled_further : (s : List ℕ) (from at n : ℕ) → IsGarbledTo s from at → n ≤ length (drop at s) → GarbledBefore (drop at s) n → IsGarbledTo s from (at + n)
garbled_further s from at n passed room garbled =
    let there : from + (at - from) ≡ at = omega (arith, passed.low) in
    let behind : drop (at - from) (drop from s) ≡ drop at s = drop-drop (at - from) from s ∙ ap (λ i. drop i s) there in
    let count : (at - from) + n ≡ (at + n) - from = omega (arith, passed.low) in
    record {
      low = omega (arith, passed.low);
      high = omega (arith, room, length-drop at s, passed.high);
      between = subst (GarbledBefore (drop from s)) count (garbled_before-then (drop from s) (at - from) n passed.between (subst (λ (t : List ℕ). GarbledBefore t n) (sym behind) garbled));
    }

-- after garbled positions a message is the first frame
pub first_from : (s : List ℕ) (start end : ℕ) → IsGarbledTo s 0 start → IsMessageAt s start end → IsFirstFrame s (take (end - start) (drop start s)) (drop end s)
first_from s start end passed message =
    let there : start + (end - start) ≡ end = omega (arith, message.low) in
    let count : start - 0 ≡ start = omega arith in
    record {
      place = start;
      before = subst (GarbledBefore s) count passed.between;
      is_whole = message.is_whole;
      parts = sym (take-append-drop (end - start) (drop start s)) ∙ ap (λ (t : List ℕ). take (end - start) (drop start s) ++ t) (drop-drop (end - start) start s ∙ ap (λ i. drop i s) there);
    }

-- garbled positions lead on to what comes after them
pub leads_on_passed : (s : List ℕ) (given : List (List ℕ)) (from at : ℕ) → LeadsOn s given (drop from s) → IsGarbledTo s from at → LeadsOn s given (drop at s)
leads_on_passed s given from at leads passed =
    let there : from + (at - from) ≡ at = omega (arith, passed.low) in
    subst (λ i. LeadsOn s given (drop i s)) there (leads_on_garbled s given from (at - from) leads (omega (arith, passed.low, passed.high, length-drop from s)) passed.between)

-- so does a message after them
pub leads_on_next : (s : List ℕ) (given : List (List ℕ)) (from start end : ℕ) → LeadsOn s given (drop from s) → IsGarbledTo s from start → IsMessageAt s start end
    → LeadsOn s (given ++ take (end - start) (drop start s) ∷ []) (drop end s)
leads_on_next s given from start end leads passed message =
    let there : start + (end - start) ≡ end = omega (arith, message.low) in
    subst (λ i. LeadsOn s (given ++ take (end - start) (drop start s) ∷ []) (drop i s)) there
    (leads_on_whole s given start (end - start) (leads_on_passed s given from start leads passed) (omega (arith, message.low, message.high, length-drop start s)) message.is_whole)
