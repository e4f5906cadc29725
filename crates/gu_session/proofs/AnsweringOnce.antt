-- Each reference is handed out at most once, and answered at most once.
use Rattle.gu_session.proofs.Words.{◌≡◌, ◌≤◌, ◌⊎◌, ◌+◌, ◌==◌, inl, inr, ℕ, Bool, true, false, not, cond, List, [], ◌∷◌, ◌++◌, filter, filter_map, option_and_then, Option, None, Some, refl, ap, sym, subst, ◌∙◌, arith, option_map_or, filter_map-append, Body, answer_messages, asked_by, on_answer, Response, AreNext, AscendsFrom, IsAnswered, OneAnswer, ReferencesGoUp, answers, Runs, handed_reference, is_over, SessionState, new_session, Steps, responses_of, session_after, Input, Course, Stay, Leave, Go, Plan, LoggedOn, Waiting}
use Rattle.gu_session.specs.declared.input.Outcome.{Outcome}
use Rattle.gu_session.proofs.HandingOut.{Takes, in_order, takes-course}

-- the least number that may still be handed out
abbrev pub least_of : Option LoggedOn → ℕ
least_of None = 1
least_of (Some at) = at.expected

-- it never decreases
pub plan_rises : (s : SessionState) (now : ℕ) (plan : Plan) (over : Bool) (at : Option LoggedOn) → is_over s.next plan ≡ over → s.at ≡ at → Takes at (Go plan) →
    least_of at ≤ least_of (session_after s now (Go plan)).at
plan_rises s now plan true at over stood takes = rw (over, stood) (omega arith)
plan_rises s now plan false None over stood takes = rw over takes.1
plan_rises s now plan false (Some at) over stood takes = rw over takes.on

pub course_rises : (s : SessionState) (now : ℕ) (course : Course) → Takes s.at course → least_of s.at ≤ least_of (session_after s now course).at
course_rises s now Stay takes = omega arith
course_rises s now Leave takes = omega arith
course_rises s now (Go plan) takes = plan_rises s now plan (is_over s.next plan) s.at refl refl takes

pub step_rises : (old new : SessionState) (input : Input) (now : ℕ) (given : List Response) → Steps old input now given new → least_of old.at ≤ least_of new.at
step_rises old new input now given steps =
    elim steps as (λ _. least_of old.at ≤ least_of new.at) [
      | inl closed ↦ rw closed.leaves (omega arith)
      | inr other ↦ rw other.leaves (course_rises old now other.course (takes-course old input now other.course other.is_course))
    ]

-- the same from an earlier number
pub ascends-lower : (low from : ℕ) (references : List ℕ) → low ≤ from → AscendsFrom from references → AscendsFrom low references
ascends-lower low from [] below each = tt
ascends-lower low from (reference ∷ references) below each = (omega (arith, each.0, below), each.1)

-- what a step hands out comes before what is handed out later
pub ascends-next : (old new : Option LoggedOn) (references later : List ℕ) → AreNext old new references → least_of old ≤ least_of new → AscendsFrom (least_of new) later →
    AscendsFrom (least_of old) (references ++ later)
ascends-next old new [] later next up each = ascends-lower (least_of old) (least_of new) later up each
ascends-next old new (reference ∷ others) later next up each =
    let one = next.0 in
    let from : least_of old ≡ reference = ap least_of one.stood ∙ one.expected in
    let to : least_of new ≡ reference + 1 = ap least_of one.stands ∙ one.used in
    (omega (arith, from), rw next.1 (subst (λ (n : ℕ). AscendsFrom n later) to each))

pub run_ascends : (old new : SessionState) (inputs : List (Input × ℕ)) (given : List Response) → Runs old inputs given new → AscendsFrom (least_of old.at) (filter_map handed_reference given)
run_ascends old new [] given runs = rw runs.0 tt
run_ascends old new (input ∷ inputs) given (first, later, next, steps, parts, rest) =
    let references : filter_map handed_reference given ≡ filter_map handed_reference first ++ filter_map handed_reference later =
    ap (filter_map handed_reference) parts ∙ filter_map-append handed_reference first later in
    subst (λ (all : List ℕ). AscendsFrom (least_of old.at) all) (sym references)
    (ascends-next old.at next.at (filter_map handed_reference first) (filter_map handed_reference later) (in_order old next input.0 input.1 first steps)
    (step_rises old next input.0 input.1 first steps) (run_ascends next new inputs later rest))

pub references_ascend : ReferencesGoUp
references_ascend firms given s reached = run_ascends (new_session firms) s reached.inputs given reached.runs

-- a request that was removed isn't found
pub none_asked : (reference : ℕ) (waiting : List Waiting) → asked_by reference (filter (λ (one : Waiting). not (one.reference == reference)) waiting) ≡ None
none_asked reference [] = refl
none_asked reference (one ∷ waiting) =
    elim (one.reference == reference) as (λ (b : Bool). (one.reference == reference) ≡ b →
    asked_by reference (cond (not b) (one ∷ filter (λ (one : Waiting). not (one.reference == reference)) waiting) (filter (λ (one : Waiting). not (one.reference == reference)) waiting)) ≡ None) [
      | true ↦ λ is. none_asked reference waiting
      | false ↦ λ is. rw is (none_asked reference waiting)
    ] refl

-- an answer that is sent
pub settled_over : (s : SessionState) (now reference : ℕ) (at : LoggedOn) (messages : List Body) (over : Bool) → is_over s.next (answers at reference messages) ≡ over →
    (responses_of s now (Go (answers at reference messages)) ≡ []) ⊎ (asked_by reference (session_after s now (Go (answers at reference messages))).waiting ≡ None)
    ⊎ ((session_after s now (Go (answers at reference messages))).is_closed ≡ true)
settled_over s now reference at messages true over = rw over (inr (inr refl))
settled_over s now reference at messages false over = rw over (inr (inl (none_asked reference (s.waiting ++ []))))

-- what the session does on an answer, given the waiting requests
pub settled_by : (s : SessionState) (now reference : ℕ) (at : LoggedOn) (messages : Option (List Body)) →
    let course = option_map_or (λ (messages : List Body). Go (answers at reference messages)) messages Stay in
    (responses_of s now course ≡ []) ⊎ (asked_by reference (session_after s now course).waiting ≡ None) ⊎ ((session_after s now course).is_closed ≡ true)
settled_by s now reference at None = inl refl
settled_by s now reference at (Some messages) = settled_over s now reference at messages (is_over s.next (answers at reference messages)) refl

pub answered_at : (s : SessionState) (now reference : ℕ) (outcome : Outcome) (stands : Option LoggedOn) →
    let course = option_map_or (λ (at : LoggedOn). on_answer at s.waiting reference outcome) stands Stay in
    IsAnswered s (session_after s now course) reference (responses_of s now course)
answered_at s now reference outcome None = record { unasked = λ none. refl; settled = inl refl }
answered_at s now reference outcome (Some at) = record {
  unasked = λ none. rw none refl;
  settled = settled_by s now reference at (option_and_then (λ (one : Waiting). answer_messages one.question one.reference outcome) (asked_by reference s.waiting));
}

pub answered_once : OneAnswer
answered_once old new reference outcome now given steps =
    elim steps as (λ _. IsAnswered old new reference given) [
      | inl closed ↦ record { unasked = λ none. closed.gives; settled = inl closed.gives }
      | inr other ↦ rw (other.gives, other.leaves, other.is_course) (answered_at old now reference outcome old.at)
    ]
