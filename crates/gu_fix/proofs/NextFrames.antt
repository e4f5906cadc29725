-- Frames taken one at a time: each leads on to what is kept after it.
use Rattle.std.proofs.Common.{◌≡◌, ℕ, ◌+◌, ◌<◌, ◌≤◌, List, [], ◌∷◌, ◌++◌, length, drop, sym, ap, subst, ◌∙◌, append_assoc, arith, inl, inr}
use Rattle.std.proofs.lemmas.List.{drop-append-le, length-drop, length-append, nil_from_length}
use Rattle.std.proofs.lemmas.Bool.{cases_lt}
use Rattle.gu_fix.specs.Stream.{IsOpen, GarbledBefore, IsFirstFrame, AreFrames, LeadsOn, TakesPiece}
use Rattle.gu_fix.proofs.WholeLemmas.{long_enough}
use Rattle.gu_fix.proofs.StreamLemmas.{garbled_before-append}
use Rattle.gu_fix.proofs.StreamLaws.{frames_exist, leads_on_start}
use Rattle.gu_fix.proofs.Scanning.{leads_on_garbled, open_at_end}

-- the first frame leads on to the rest
pub leads_on_first : (s message rest : List ℕ) → IsFirstFrame s message rest → LeadsOn s (message ∷ []) rest
leads_on_first s message rest first more later h =
    let some = long_enough message first.is_whole in
    let room : first.place ≤ length s = omega (arith, some, ap length first.parts, length-drop first.place s, length-append message rest) in (
      rest ++ more,
      record {
        place = first.place;
        before = garbled_before-append s more first.place room first.before;
        is_whole = first.is_whole;
        parts = drop-append-le first.place s more room ∙ ap (λ (t : List ℕ). t ++ more) first.parts ∙ append_assoc message rest more;
      },
      h,
    )

-- what leads on, and then what leads on from there
pub leads_on_more : (read kept next : List ℕ) (frames given : List (List ℕ)) → LeadsOn read frames kept → LeadsOn kept given next → LeadsOn read (frames ++ given) next
leads_on_more read kept next frames given first second more later h =
    subst (λ (fs : List (List ℕ)). AreFrames (read ++ more) fs) (sym (append_assoc frames given later)) (first more (given ++ later) (second more later h))

-- no position after the end is garbled
garbled_within : (s : List ℕ) (n : ℕ) → GarbledBefore s n → n ≤ length s
garbled_within s n before =
    elim (cases_lt (length s) n) [
      | inl lt ↦ absurd ((before (length s) lt).1 (subst IsOpen (sym (nil_from_length (drop (length s) s) (omega (arith, length-drop (length s) s)))) open_at_end))
      | inr le ↦ le
    ]

-- after the frames of a stream, something is kept that leads on
pub kept_after : (frames : List (List ℕ)) (s : List ℕ) → AreFrames s frames → (kept : List ℕ) × LeadsOn s frames kept
kept_after [] s none =
    let there : 0 + none.place ≡ none.place = omega arith in
    (drop none.place s, subst (λ i. LeadsOn s [] (drop i s)) there (leads_on_garbled s [] 0 none.place (leads_on_start s) (garbled_within s none.place none.before) none.before))
kept_after (message ∷ messages) s (rest, first, others) =
    let later = kept_after messages rest others in
    (later.0, leads_on_more s rest later.0 (message ∷ []) messages (leads_on_first s message rest first) later.1)

-- each stream is a piece that can be taken
pub takes_exist : (s : List ℕ) → (frames : List (List ℕ)) × (kept : List ℕ) × TakesPiece [] s frames kept
takes_exist s =
    let are = frames_exist s in
    let keeps = kept_after are.0 s are.1 in
    (are.0, keeps.0, record { given_are = are.1; leads_on = keeps.1 })

-- the rest after the first frame is shorter
pub rest_is_shorter : (s message rest : List ℕ) → IsFirstFrame s message rest → length rest < length s
rest_is_shorter s message rest first =
    omega (arith, long_enough message first.is_whole, ap length first.parts, length-drop first.place s, length-append message rest)
