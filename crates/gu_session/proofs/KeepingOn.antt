-- Kept messages over a run: the last ones sent. No rule is used.
use Rattle.gu_session.proofs.Words.{◌≡◌, inl, inr, ℕ, ◌-◌, Bool, true, false, List, [], ◌∷◌, ◌++◌, filter_map, length, drop, refl, ap, sym, ◌∙◌, append_assoc, arith, append-nil, length-append, length-drop, drop-append-le, drop-drop, filter_map-append, keep_last, Outbound, Response, KeepsTheLastSent, Runs, new_message, behind, given_by, is_over, kept_after, new_of, sent_in, SessionState, new_session, Steps, responses_of, session_after, Input, Sent, Course, Stay, Leave, Go, Plan}
use Rattle.gu_session.proofs.GoingOn.{new_messages-plan}

-- keeping the last of those kept and of others is keeping the last of all
pub keep_last-append : (n : ℕ) (xs ys : List Sent) → keep_last n (keep_last n xs ++ ys) ≡ keep_last n (xs ++ ys)
keep_last-append n xs ys =
    let k = length xs - n in
    let whole = xs ++ ys in
    let same : keep_last n xs ++ ys ≡ drop k whole = sym (drop-append-le k xs ys (omega arith)) in
    ap (keep_last n) same ∙ ap (λ (m : ℕ). drop (m - n) (drop k whole)) (length-drop k whole) ∙ drop-drop ((length whole - k) - n) k whole
    ∙ ap (λ (m : ℕ). drop m whole) (omega (arith, length-append xs ys))

-- a session keeps the last of those kept and those sent
abbrev pub KeepsOn : SessionState → SessionState → List Outbound → Type 0
KeepsOn old new messages = (all : List Sent) → old.kept ≡ keep_last 4096 all → new.kept ≡ keep_last 4096 (all ++ filter_map sent_in messages)

-- without new messages it keeps the same ones
pub nothing_keeps_on : (old new : SessionState) → new.kept ≡ old.kept → KeepsOn old new []
nothing_keeps_on old new same all before = same ∙ before ∙ ap (keep_last 4096) (sym (append-nil all))

-- with a plan
pub plan_keeps_on : (s : SessionState) (now : ℕ) (plan : Plan) → KeepsOn s (behind s now plan) (filter_map new_message (given_by s now plan))
plan_keeps_on s now plan all before =
    ap (λ (kept : List Sent). kept_after kept (new_of s now plan)) before ∙ keep_last-append 4096 all (filter_map sent_in (new_of s now plan))
    ∙ ap (λ (messages : List Outbound). keep_last 4096 (all ++ filter_map sent_in messages)) (sym (new_messages-plan s now plan))

pub plan_or_end_keeps_on : (s : SessionState) (now : ℕ) (plan : Plan) (over : Bool) → is_over s.next plan ≡ over →
    KeepsOn s (session_after s now (Go plan)) (filter_map new_message (responses_of s now (Go plan)))
plan_or_end_keeps_on s now plan true over = rw over (nothing_keeps_on s (record s { is_closed = true }) refl)
plan_or_end_keeps_on s now plan false over = rw over (plan_keeps_on s now plan)

pub course_keeps_on : (s : SessionState) (now : ℕ) (course : Course) → KeepsOn s (session_after s now course) (filter_map new_message (responses_of s now course))
course_keeps_on s now Stay = nothing_keeps_on s s refl
course_keeps_on s now Leave = nothing_keeps_on s (record s { is_closed = true }) refl
course_keeps_on s now (Go plan) = plan_or_end_keeps_on s now plan (is_over s.next plan) refl

-- in a step
pub step_keeps_on : (old new : SessionState) (input : Input) (now : ℕ) (given : List Response) → Steps old input now given new → KeepsOn old new (filter_map new_message given)
step_keeps_on old new input now given steps =
    elim steps as (λ _. KeepsOn old new (filter_map new_message given)) [
      | inl closed ↦ rw (closed.gives, closed.leaves) (nothing_keeps_on old old refl)
      | inr other ↦ rw (other.gives, other.leaves) (course_keeps_on old now other.course)
    ]

-- in a run
pub run_keeps_on : (old new : SessionState) (inputs : List (Input × ℕ)) (given : List Response) → Runs old inputs given new → KeepsOn old new (filter_map new_message given)
run_keeps_on old new [] given runs = rw (runs.0, runs.1) (nothing_keeps_on old old refl)
run_keeps_on old new (input ∷ inputs) given (first, later, next, steps, parts, rest) = λ all before.
    let one = step_keeps_on old next input.0 input.1 first steps all before in
    let more = run_keeps_on next new inputs later rest (all ++ filter_map sent_in (filter_map new_message first)) one in
    let messages : filter_map new_message given ≡ filter_map new_message first ++ filter_map new_message later =
    ap (filter_map new_message) parts ∙ filter_map-append new_message first later in
    more ∙ ap (keep_last 4096) (append_assoc all (filter_map sent_in (filter_map new_message first)) (filter_map sent_in (filter_map new_message later))
    ∙ ap (λ (sent : List Sent). all ++ sent)
    (sym (ap (filter_map sent_in) messages ∙ filter_map-append sent_in (filter_map new_message first) (filter_map new_message later))))

pub keeps_the_last : KeepsTheLastSent
keeps_the_last firms given s reached = run_keeps_on (new_session firms) s reached.inputs given reached.runs [] refl
