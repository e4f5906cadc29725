-- Laws of the frames of a stream, for the crates above: the list of frames exists and is unique; the frames that a feed gives, piece after
-- piece, are those of the joined stream.
use Rattle.std.proofs.Common.{◌≡◌, ℕ, zero, suc, ◌<◌, ◌≤◌, List, [], ◌∷◌, ◌++◌, length, take, drop, refl, sym, ap, subst, ◌∙◌, append_assoc, arith, inl, inr}
use Rattle.std.specs.List.{concat}
use Rattle.std.proofs.lemmas.List.{length-take-le, take-append-drop, length-drop, nil_from_length, append-nil, length-append}
use Rattle.std.proofs.lemmas.Bool.{cases_order}
use Rattle.gu_fix.specs.WholeMessage.{IsWhole}
use Rattle.gu_fix.specs.Stream.{IsOpen, IsGarbled, GarbledBefore, IsFirstFrame, HasNoFrameYet, AreFrames, LeadsOn, TakesPieces}
use Rattle.gu_fix.specs.Places.{StandsAs}
use Rattle.gu_fix.specs.declared.prefix.Prefix.{Prefix}
use Rattle.gu_fix.specs.declared.prefix.Prefix.TheVariants as place
use Rattle.gu_fix.proofs.Lists.{same_fronts}
use Rattle.gu_fix.proofs.WholeLemmas.{one_message, stands_closed, long_enough}
use Rattle.gu_fix.proofs.StreamLemmas.{frames_whole, frames_after, stands_at}
use Rattle.gu_fix.proofs.Scanning.{garbled_some, open_at_end}
use Rattle.gu_fix.proofs.Existence.{place_of}

-- a stream doesn't both have a first frame and none yet
first_or_none : (s m rest : List ℕ) → IsFirstFrame s m rest → HasNoFrameYet s → ⊥
first_or_none s m rest first none =
    let stands = stands_at (drop first.place s) m rest first.is_whole first.parts in
    elim (cases_order none.place first.place) [
      | inl same ↦ stands_closed (drop first.place s) stands (subst (λ i. IsOpen (drop i s)) same none.is_open)
      | inr (inl lt) ↦ (first.before none.place lt).1 none.is_open
      | inr (inr lt) ↦ (none.before first.place lt).0 stands
    ]

-- a stream has at most one list of frames
pub one_list : (a b : List (List ℕ)) (s : List ℕ) → AreFrames s a → AreFrames s b → a ≡ b
one_list [] [] s p q = refl
one_list [] (m ∷ ms) s none (rest, first, others) = absurd (first_or_none s m rest first none)
one_list (m ∷ ms) [] s (rest, first, others) none = absurd (first_or_none s m rest first none)
one_list (m ∷ ms) (n ∷ ns) s (rest, p, h) (more, q, g) =
    elim (cases_order p.place q.place) [
      | inl same ↦
          let both : m ++ rest ≡ n ++ more = sym p.parts ∙ ap (λ i. drop i s) same ∙ q.parts in
          let first = one_message m n rest more p.is_whole q.is_whole both in
          let behind = (same_fronts m n rest more (ap length first) both).1 in
          let others = one_list ms ns more (subst (λ t. AreFrames t ms) behind h) g in
          cc
      | inr (inl lt) ↦ absurd ((q.before p.place lt).0 (stands_at (drop p.place s) m rest p.is_whole p.parts))
      | inr (inr lt) ↦ absurd ((p.before q.place lt).0 (stands_at (drop q.place s) n more q.is_whole q.parts))
    ]

-- open bytes have no frames yet
pub none_yet : (kept : List ℕ) → IsOpen kept → AreFrames kept []
none_yet kept is = record { place = 0; before = λ k lt. absurd (omega arith); is_open = is }

-- if bytes lead on to open bytes, the given frames are those so far
pub given_from : (bytes : List ℕ) (given : List (List ℕ)) (kept : List ℕ) → LeadsOn bytes given kept → IsOpen kept → AreFrames bytes given
given_from bytes given kept leads is =
    let at_once = leads [] [] (subst (λ (t : List ℕ). AreFrames t []) (sym (append-nil kept)) (none_yet kept is)) in
    subst (λ fs. AreFrames bytes fs) (append-nil given) (subst (λ (t : List ℕ). AreFrames t (given ++ [])) (append-nil bytes) at_once)

-- the empty stream has none
pub none_at_start : AreFrames [] []
none_at_start = none_yet [] open_at_end

-- a message at the start is the first frame, followed by those of the rest
pub message_first : (message rest : List ℕ) (frames : List (List ℕ)) → IsWhole message → AreFrames rest frames → AreFrames (message ++ rest) (message ∷ frames)
message_first message rest frames is are = frames_whole message rest frames is are

-- an open rest is shorter than the longest message
pub open_is_short : (kept : List ℕ) → IsOpen kept → length kept < 65536
open_is_short kept is = omega (arith, is.is_whole.most, is.some, length-append kept is.more)

-- ---- each stream has frames

-- the frames of a stream, from what is at its start
frames_step : (left : ℕ) (s : List ℕ) → length s ≤ suc left → ((t : List ℕ) → length t ≤ left → (fs : List (List ℕ)) × AreFrames t fs) → ((p : Prefix) × StandsAs p s) → (fs : List (List ℕ)) × AreFrames s fs
frames_step left s l shorter (place.Whole n, (room, w)) =
    let some = long_enough (take n s) w in
    let count = length-take-le n s room in
    let later = shorter (drop n s) (omega (arith, length-drop n s)) in
    (take n s ∷ later.0, subst (λ (t : List ℕ). AreFrames t (take n s ∷ later.0)) (take-append-drop n s) (frames_whole (take n s) (drop n s) later.0 w later.1))
frames_step left s l shorter (place.Open, is) = ([], none_yet s is)
frames_step left s l shorter (place.Garbled, garbled) =
    let some = garbled_some s garbled in
    let later = shorter (drop 1 s) (omega (arith, length-drop 1 s)) in
    let only : GarbledBefore s 1 = λ k lt. (let first : 0 ≡ k = omega arith in subst (λ i. IsGarbled (drop i s)) first garbled) in
    (later.0, frames_after s 1 later.0 only later.1)

-- the frames of a stream of at most this many bytes
frames_within : (left : ℕ) (s : List ℕ) → length s ≤ left → (fs : List (List ℕ)) × AreFrames s fs
frames_within zero s l = ([], none_yet s (subst IsOpen (sym (nil_from_length s (omega arith))) open_at_end))
frames_within (suc left) s l = frames_step left s l (frames_within left) (place_of s)

-- each stream has frames
pub frames_exist : (s : List ℕ) → (fs : List (List ℕ)) × AreFrames s fs
frames_exist s = frames_within (length s) s (omega arith)

-- ---- what leads on

-- before the first piece
pub leads_on_start : (bytes : List ℕ) → LeadsOn bytes [] bytes
leads_on_start bytes more later h = h

-- a further piece
pub leads_on_then : (read kept piece next : List ℕ) (frames given : List (List ℕ)) → LeadsOn read frames kept → LeadsOn (kept ++ piece) given next → LeadsOn (read ++ piece) (frames ++ given) next
leads_on_then read kept piece next frames given first second more later h =
    let inner = subst (λ (t : List ℕ). AreFrames t (given ++ later)) (append_assoc kept piece more) (second more later h) in
    let outer = first (piece ++ more) (given ++ later) inner in
    subst (λ (fs : List (List ℕ)). AreFrames ((read ++ piece) ++ more) fs) (sym (append_assoc frames given later))
    (subst (λ (t : List ℕ). AreFrames t (frames ++ (given ++ later))) (sym (append_assoc read piece more)) outer)

-- the pieces that come after those that were read
pub pieces_lead_on : (pieces : List (List ℕ)) (read kept last : List ℕ) (frames given : List (List ℕ)) → AreFrames read frames → LeadsOn read frames kept → TakesPieces kept pieces given last
    → AreFrames (read ++ concat pieces) (frames ++ given) × LeadsOn (read ++ concat pieces) (frames ++ given) last
pieces_lead_on [] read kept last frames given are leads (none, same) =
    let all : frames ≡ frames ++ given = sym (append-nil frames) ∙ ap (λ (t : List (List ℕ)). frames ++ t) (sym none) in
    let end : read ≡ read ++ [] = sym (append-nil read) in (
      subst (λ (t : List ℕ). AreFrames t (frames ++ given)) end (subst (AreFrames read) all are),
      subst (λ (t : List ℕ). LeadsOn t (frames ++ given) last) end (subst (λ (fs : List (List ℕ)). LeadsOn read fs last) all (subst (LeadsOn read frames) (sym same) leads)),
    )
pieces_lead_on (piece ∷ pieces) read kept last frames given are leads (now, next, later, step, parts, others) =
    let after = pieces_lead_on pieces (read ++ piece) next last (frames ++ now) later (leads piece now step.given_are) (leads_on_then read kept piece next frames now leads step.leads_on) others in
    let joined : (read ++ piece) ++ concat pieces ≡ read ++ (piece ++ concat pieces) = append_assoc read piece (concat pieces) in
    let all : (frames ++ now) ++ later ≡ frames ++ given = append_assoc frames now later ∙ ap (λ (t : List (List ℕ)). frames ++ t) (sym parts) in (
      subst (λ (t : List ℕ). AreFrames t (frames ++ given)) joined (subst (AreFrames ((read ++ piece) ++ concat pieces)) all after.0),
      subst (λ (t : List ℕ). LeadsOn t (frames ++ given) last) joined (subst (λ (fs : List (List ℕ)). LeadsOn ((read ++ piece) ++ concat pieces) fs last) all after.1),
    )

-- for any list of pieces the frames given are those of the joined stream, and what is kept leads on from there
pub frames_of_pieces : (pieces : List (List ℕ)) (given : List (List ℕ)) (last : List ℕ) → TakesPieces [] pieces given last → AreFrames (concat pieces) given × LeadsOn (concat pieces) given last
frames_of_pieces pieces given last takes = pieces_lead_on pieces [] [] last [] given none_at_start (leads_on_start []) takes
