-- A request is served with messages that cover each number once.
use Rattle.gu_session.proofs.Words.{◌≡◌, inl, inr, ℕ, ◌+◌, ◌-◌, ◌≤◌, min, Bool, cond, true, false, ◌&&◌, ◌==◌, nat_lt, nat_le, List, [], ◌∷◌, ◌++◌, filter_map, length, refl, ap, ◌∙◌, arith, FirmId, ResendRequest, Response, ServesWhatIsAsked, behind_last, gap_fill, resent, sent_within, with_gaps, Runs, behind, is_over, new_of, sent_in, SessionState, new_session, Steps, session_after, Input, Sent, Course, Stay, Leave, Go, Plan, AreWithin}
use Rattle.gu_session.proofs.Ascending.{within-append, within-drop, within-numbered, within-range}
use Rattle.gu_session.proofs.Covering.{covers_with_gaps, longest_with_gaps}

-- the numbers of kept messages ascend below the next number
abbrev pub IsAscending : SessionState → Type 0
IsAscending s = AreWithin 1 s.next s.kept

-- a plan preserves this
pub plan_ascends : (s : SessionState) (now : ℕ) (plan : Plan) → IsAscending s → IsAscending (behind s now plan)
plan_ascends s now plan before =
    let sent = filter_map sent_in (new_of s now plan) in
    within-drop (length (s.kept ++ sent) - 4096) 1 (s.next + length plan.messages) (s.kept ++ sent)
    (within-append 1 s.next (s.next + length plan.messages) s.kept sent before (within-numbered plan.after.firm now s.next plan.messages))

pub plan_or_end_ascends : (s : SessionState) (now : ℕ) (plan : Plan) (over : Bool) → is_over s.next plan ≡ over → IsAscending s → IsAscending (session_after s now (Go plan))
plan_or_end_ascends s now plan true over before = rw over before
plan_or_end_ascends s now plan false over before = rw over (plan_ascends s now plan before)

pub course_ascends : (s : SessionState) (now : ℕ) (course : Course) → IsAscending s → IsAscending (session_after s now course)
course_ascends s now Stay before = before
course_ascends s now Leave before = before
course_ascends s now (Go plan) before = plan_or_end_ascends s now plan (is_over s.next plan) refl before

-- in a step
pub step_ascends : (old new : SessionState) (input : Input) (now : ℕ) (given : List Response) → Steps old input now given new → IsAscending old → IsAscending new
step_ascends old new input now given steps before =
    elim steps as (λ _. IsAscending new) [
      | inl closed ↦ rw closed.leaves before
      | inr other ↦ rw other.leaves (course_ascends old now other.course before)
    ]

-- in a run
pub run_ascends : (old new : SessionState) (inputs : List (Input × ℕ)) (given : List Response) → Runs old inputs given new → IsAscending old → IsAscending new
run_ascends old new [] given runs before = rw runs.1 before
run_ascends old new (input ∷ inputs) given (first, later, next, steps, parts, rest) before =
    run_ascends next new inputs later rest (step_ascends old next input.0 input.1 first steps before)

-- there is none in an empty range
pub none_within : (kept : List Sent) (from to : ℕ) → to ≤ from → sent_within from to kept ≡ []
none_within [] from to below = refl
none_within (sent ∷ later) from to below =
    let out : (nat_le from sent.number && nat_lt sent.number to) ≡ false = grind (arith, below) in
    ap (λ (b : Bool). cond b (sent ∷ sent_within from to later) (sent_within from to later)) out ∙ none_within later from to below

-- no number that wasn't sent is requested
pub behind_last-most : (next last : ℕ) → behind_last next last ≤ next
behind_last-most next last =
    elim (last == 0) as (λ (b : Bool). cond b next (min (last + 1) next) ≤ next) [
      | true ↦ omega arith
      | false ↦ omega arith
    ]

-- a request for none is served with nothing
pub none_resent : (firm : FirmId) (kept : List Sent) (next now : ℕ) (request : ResendRequest) → next ≤ request.begin_seq_no → resent firm kept next now request ≡ []
none_resent firm kept next now request above =
    let to = behind_last next request.end_seq_no in
    let first = request.begin_seq_no in
    let low : to ≤ first = omega (arith, behind_last-most next request.end_seq_no, above) in
    let none : nat_lt first to ≡ false = grind (arith, low) in
    ap (with_gaps firm now first to) (none_within kept first to low) ∙ ap (λ (b : Bool). cond b (gap_fill firm now first to ∷ []) []) none

pub serves : ServesWhatIsAsked
serves firms given s firm now request reached =
    let first = request.begin_seq_no in
    let to = behind_last s.next request.end_seq_no in
    let ascends = run_ascends (new_session firms) s reached.inputs given reached.runs (omega arith) in
    record {
      each_once = λ below. covers_with_gaps firm now first to (sent_within first to s.kept) (within-range first first to 1 s.next s.kept ascends (omega arith) below);
      longest = longest_with_gaps firm now first to (sent_within first to s.kept);
      none_above = λ above. none_resent firm s.kept s.next now request above;
    }
