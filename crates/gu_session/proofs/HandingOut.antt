-- What a step hands out: the request in the message with the expected number.
use Rattle.gu_session.proofs.Words.{◌≡◌, ◌≤◌, ◌==◌, ◌&&◌, inl, inr, ℕ, Bool, true, false, not, cond, List, [], ◌∷◌, ◌++◌, map, filter_map, Option, None, Some, option_and_then, refl, ap, sym, subst, ◌∙◌, arith, option_map_or, FirmId, Body, Outbound, answer_messages, asked_by, on_answer, on_notice, Response, Sends, AreNext, ExpectedNeverFalls, HandsOutInOrder, answers, leaves, says, handed_reference, ending_of, is_over, sent_by, SessionState, IsCourse, at_frame, frame_course, on_close, responses_of, session_after, Heard, Input, Course, Stay, Leave, Go, Handed, Plan, LoggedOn, Waiting}
use Rattle.gu_terms.specs.declared.notice.Notice.{Notice}
use Rattle.gu_msgs.specs.declared.coded_values.LogoutReason.TheVariants.{Silent}
use Rattle.gu_msgs.specs.declared.inbound.Logon.{Logon}
use Rattle.gu_msgs.specs.declared.outbound.Body.TheVariants as body
use Rattle.gu_session.specs.Logons.{caller, logged_on, logon_in, on_logon}
use Rattle.gu_session.specs.TimeRules.{have_passed, on_tick}
use Rattle.gu_session.specs.declared.input.Input.TheVariants as input
use Rattle.gu_session.specs.declared.input.Outcome.{Outcome}
use Rattle.gu_session.proofs.InOrder.{HandsNext, IsInOrder, frame_in_order}

-- the course of a session in this state: nothing is handed out before a firm logs on, and afterwards in order
abbrev pub Takes : Option LoggedOn → Course → Type 0
Takes at Stay = Unit {0}
Takes at Leave = Unit {0}
Takes None (Go plan) = (plan.handed ≡ None) × (1 ≤ plan.after.expected)
Takes (Some at) (Go plan) = IsInOrder at.expected plan

-- a choice between courses
pub takes-if : (at : Option LoggedOn) (test : Bool) (x y : Course) → Takes at x → Takes at y → Takes at (cond test x y)
takes-if at true x y first second = first
takes-if at false x y first second = second

-- notices
pub takes-notice : (at : Option LoggedOn) (notice : Notice) → Takes at (option_map_or (λ (at : LoggedOn). on_notice at notice) at Stay)
takes-notice None notice = tt
takes-notice (Some at) notice = record { hands = tt; on = omega arith }

-- answers
pub takes-messages : (at : LoggedOn) (reference : ℕ) (messages : Option (List Body)) →
    Takes (Some at) (option_map_or (λ (messages : List Body). Go (answers at reference messages)) messages Stay)
takes-messages at reference None = tt
takes-messages at reference (Some messages) = record { hands = tt; on = omega arith }

pub takes-answer : (at : Option LoggedOn) (waiting : List Waiting) (reference : ℕ) (outcome : Outcome) →
    Takes at (option_map_or (λ (at : LoggedOn). on_answer at waiting reference outcome) at Stay)
takes-answer None waiting reference outcome = tt
takes-answer (Some at) waiting reference outcome =
    takes-messages at reference (option_and_then (λ (one : Waiting). answer_messages one.question one.reference outcome) (asked_by reference waiting))

-- time
pub takes-tick : (at : Option LoggedOn) (sent_at now : ℕ) → Takes at (option_map_or (λ (at : LoggedOn). on_tick at sent_at now) at Stay)
takes-tick None sent_at now = tt
takes-tick (Some at) sent_at now =
    takes-if (Some at) (at.heart_bt_int == 0) Stay _ tt
    (takes-if (Some at) (have_passed 3 at at.heard_at now) (Go (leaves at (body.Logout (Some Silent) ∷ []))) _ (record { hands = tt; on = omega arith })
    (takes-if (Some at) (have_passed 2 at at.heard_at now && not at.is_tested) (Go (says (record at { is_tested = true }) (body.TestRequest ∷ []))) _ (record { hands = tt; on = omega arith })
    (takes-if (Some at) (have_passed 1 at sent_at now) (Go (says at (body.Heartbeat None ∷ []))) Stay (record { hands = tt; on = omega arith }) tt)))

-- the house closing
pub takes-close : (at : Option LoggedOn) → Takes at (option_map_or (λ (at : LoggedOn). on_close at) at Leave)
takes-close None = tt
takes-close (Some at) = record { hands = tt; on = omega arith }

-- logons
pub begins-logged_on : (firm : FirmId) (number : ℕ) (m : Logon) (now : ℕ) (is_first : Bool) → (number == 1) ≡ is_first →
    ((logged_on firm number m now).handed ≡ None) × (1 ≤ (logged_on firm number m now).after.expected)
begins-logged_on firm number m now true is = rw is (refl, omega arith)
begins-logged_on firm number m now false is = rw is (refl, omega arith)

pub takes-logon : (now : ℕ) (number : Option ℕ) (firm : Option FirmId) (m : Option Logon) → Takes None (on_logon now number firm m)
takes-logon now (Some number) (Some firm) (Some m) = begins-logged_on firm number m now (number == 1) refl
takes-logon now (Some number) (Some firm) None = tt
takes-logon now (Some number) None m = tt
takes-logon now None firm m = tt

-- frames
pub takes-frame : (firms : List FirmId) (at : Option LoggedOn) (heard : Heard) (now : ℕ) → Takes at (frame_course firms at heard now)
takes-frame firms None heard now = takes-logon now heard.heading.number (caller firms heard.heading) (logon_in heard.content)
takes-frame firms (Some at) heard now =
    let frame = frame_in_order (at_frame at now) heard in
    record { hands = frame.hands; on = frame.on }

-- any input
pub takes-course : (s : SessionState) (given : Input) (now : ℕ) (course : Course) → IsCourse s given now course → Takes s.at course
takes-course s (input.Frame bytes) now course is = rw is.course_is (takes-frame s.firms s.at is.heard now)
takes-course s (input.Notice notice) now course is = rw is (takes-notice s.at notice)
takes-course s (input.Answer reference outcome) now course is = rw is (takes-answer s.at s.waiting reference outcome)
takes-course s input.Tick now course is = rw is (takes-tick s.at s.sent_at now)
takes-course s input.End now course is = rw is tt
takes-course s input.Close now course is = rw is (takes-close s.at)

-- messages aren't handed out
pub no_references-sends : (messages : List Outbound) (given : List Response) → filter_map handed_reference (map Sends messages ++ given) ≡ filter_map handed_reference given
no_references-sends [] given = refl
no_references-sends (message ∷ messages) given = no_references-sends messages given

-- for a session in this state, the request handed out has the next number
pub next-one : (old : Option LoggedOn) (after : LoggedOn) (handed : Option Handed) (ends : Bool) (at : LoggedOn) → old ≡ Some at → HandsNext at.expected handed after →
    AreNext old (Some after) (filter_map handed_reference (ending_of handed ends))
next-one old after None true at stood hands = tt
next-one old after None false at stood hands = tt
next-one old after (Some handed) true at stood hands =
    (record { at = at; after = after; stood = stood; stands = refl; expected = hands.0; used = hands.1 }, refl)
next-one old after (Some handed) false at stood hands =
    (record { at = at; after = after; stood = stood; stands = refl; expected = hands.0; used = hands.1 }, refl)

-- before a firm logs on there is none
pub next-none : (after : LoggedOn) (handed : Option Handed) (ends : Bool) → handed ≡ None → AreNext None (Some after) (filter_map handed_reference (ending_of handed ends))
next-none after None true none = tt
next-none after None false none = tt
next-none after (Some handed) ends none = absurd (cc)

pub plan_next : (at : Option LoggedOn) (plan : Plan) → Takes at (Go plan) → AreNext at (Some plan.after) (filter_map handed_reference (ending_of plan.handed plan.ends))
plan_next None plan takes = next-none plan.after plan.handed plan.ends takes.0
plan_next (Some at) plan takes = next-one (Some at) plan.after plan.handed plan.ends at refl takes.hands

pub over_next : (s : SessionState) (now : ℕ) (plan : Plan) (over : Bool) → is_over s.next plan ≡ over → Takes s.at (Go plan) →
    AreNext s.at (session_after s now (Go plan)).at (filter_map handed_reference (responses_of s now (Go plan)))
over_next s now plan true over takes = rw over tt
over_next s now plan false over takes =
    rw (over, no_references-sends (sent_by s now plan) (ending_of plan.handed plan.ends)) (plan_next s.at plan takes)

pub course_next : (s : SessionState) (now : ℕ) (course : Course) → Takes s.at course → AreNext s.at (session_after s now course).at (filter_map handed_reference (responses_of s now course))
course_next s now Stay takes = tt
course_next s now Leave takes = tt
course_next s now (Go plan) takes = over_next s now plan (is_over s.next plan) refl takes

pub in_order : HandsOutInOrder
in_order old new given_input now given steps =
    elim steps as (λ _. AreNext old.at new.at (filter_map handed_reference given)) [
      | inl closed ↦ rw closed.gives tt
      | inr other ↦ rw (other.gives, other.leaves) (course_next old now other.course (takes-course old given_input now other.course other.is_course))
    ]

-- the expected number after a plan
pub plan_on : (s : SessionState) (now : ℕ) (plan : Plan) (over : Bool) (at after : LoggedOn) → is_over s.next plan ≡ over → s.at ≡ Some at → IsInOrder at.expected plan →
    (session_after s now (Go plan)).at ≡ Some after → at.expected ≤ after.expected
plan_on s now plan true at after over stood takes stands =
    let same : s.at ≡ Some after = rw over at stands in let one : at ≡ after = cc in rw one (omega arith)
plan_on s now plan false at after over stood takes stands =
    let same : Some plan.after ≡ Some after = rw over at stands in let one : plan.after ≡ after = cc in rw (← one) takes.on

pub course_on : (s : SessionState) (now : ℕ) (course : Course) (at after : LoggedOn) → s.at ≡ Some at → Takes (Some at) course →
    (session_after s now course).at ≡ Some after → at.expected ≤ after.expected
course_on s now Stay at after stood takes stands = let one : at ≡ after = cc in rw one (omega arith)
course_on s now Leave at after stood takes stands = let one : at ≡ after = cc in rw one (omega arith)
course_on s now (Go plan) at after stood takes stands = plan_on s now plan (is_over s.next plan) at after refl stood takes stands

pub never_falls : ExpectedNeverFalls
never_falls old new given_input now given at after steps stood stands =
    elim steps as (λ _. at.expected ≤ after.expected) [
      | inl closed ↦
          let same : old.at ≡ Some after = sym (ap (λ (s : SessionState). s.at) closed.leaves) ∙ stands in
          let one : at ≡ after = cc in rw one (omega arith)
      | inr other ↦
          course_on old now other.course at after stood (subst (λ (o : Option LoggedOn). Takes o other.course) stood (takes-course old given_input now other.course other.is_course))
          (sym (ap (λ (s : SessionState). s.at) other.leaves) ∙ stands)
    ]
