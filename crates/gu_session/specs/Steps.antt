-- One step of a session: what an input gives, and the session afterwards.
use Rattle.std.specs.Prelude.{◌≡◌, ◌⊎◌, ℕ, true, false, List, [], ◌∷◌, Option, None, Some, if◌then◌else◌}
use Rattle.std.specs.Option.{option_map_or}
use Rattle.gu_terms.specs.declared.firm.FirmId.{FirmId}
use Rattle.gu_msgs.specs.declared.coded_values.LogoutReason.TheVariants.{Closing}
use Rattle.gu_msgs.specs.declared.outbound.Body.TheVariants.{Logout}
use Rattle.gu_session.specs.AnswerRules.{on_answer, on_notice}
use Rattle.gu_session.specs.Encoded.{AreOutputs, Response, Closes}
use Rattle.gu_session.specs.FrameRules.{frame_plan}
use Rattle.gu_session.specs.Hearing.{Hears}
use Rattle.gu_session.specs.Logons.{logon_course}
use Rattle.gu_session.specs.Plans.{leaves}
use Rattle.gu_session.specs.Sending.{behind, closed, given_by, is_over}
use Rattle.gu_session.specs.States.{SessionState}
use Rattle.gu_session.specs.TimeRules.{on_tick}
use Rattle.gu_session.specs.declared.heard.Heard.{Heard}
use Rattle.gu_session.specs.declared.input.Input.{Input}
use Rattle.gu_session.specs.declared.input.Input.TheVariants.{Frame, Notice, Answer, Tick, End, Close}
use Rattle.gu_session.specs.declared.output.Output.{Output}
use Rattle.gu_session.specs.declared.plan.Course.{Course}
use Rattle.gu_session.specs.declared.plan.Course.TheVariants.{Stay, Leave, Go}
use Rattle.gu_session.specs.declared.logged_on.LoggedOn.{LoggedOn}

-- the state after a frame arrives, whatever its content
abbrev pub at_frame : LoggedOn → ℕ → LoggedOn
at_frame at now = record at { heard_at = now; is_tested = false }

-- what the session does on a frame with this content
abbrev pub frame_course : List FirmId → Option LoggedOn → Heard → ℕ → Course
frame_course firms None heard now = logon_course firms heard now
frame_course firms (Some at) heard now = Go (frame_plan (at_frame at now) heard)

-- what the session does on a frame, decided by the content of its bytes
pub record IsFrameCourse (firms : List FirmId) (at : Option LoggedOn) (bytes : List ℕ) (now : ℕ) (course : Course) : Type 0 where
  pub heard : Heard
  pub hears : Hears bytes heard
  pub course_is : course ≡ frame_course firms at heard now

-- when the house closes, a firm that is logged on is sent a Logout that says so, and the session ends
abbrev pub on_close : LoggedOn → Course
on_close at = Go (leaves at (Logout (Some Closing) ∷ []))

-- what the session does on an input; notices, answers and ticks do nothing before a firm is logged on
abbrev pub IsCourse : SessionState → Input → ℕ → Course → Type 0
IsCourse s (Frame bytes) now course = IsFrameCourse s.firms s.at bytes now course
IsCourse s (Notice notice) now course = course ≡ option_map_or (λ at. on_notice at notice) s.at Stay
IsCourse s (Answer reference outcome) now course = course ≡ option_map_or (λ at. on_answer at s.waiting reference outcome) s.at Stay
IsCourse s Tick now course = course ≡ option_map_or (λ at. on_tick at s.sent_at now) s.at Stay
IsCourse s End now course = course ≡ Leave
IsCourse s Close now course = course ≡ option_map_or (λ at. on_close at) s.at Leave

-- the responses of a course; a plan that needs a number above the greatest gives only the end
abbrev pub responses_of : SessionState → ℕ → Course → List Response
responses_of s now Stay = []
responses_of s now Leave = Closes ∷ []
responses_of s now (Go plan) = if is_over s.next plan then Closes ∷ [] else given_by s now plan

-- the session after a course
abbrev pub session_after : SessionState → ℕ → Course → SessionState
session_after s now Stay = s
session_after s now Leave = closed s
session_after s now (Go plan) = if is_over s.next plan then closed s else behind s now plan

-- a step of an open session
pub record StepsOpen (old : SessionState) (input : Input) (now : ℕ) (given : List Response) (new : SessionState) : Type 0 where
  pub is_open : old.is_closed ≡ false
  pub course : Course
  pub is_course : IsCourse old input now course
  pub gives : given ≡ responses_of old now course
  pub leaves : new ≡ session_after old now course

-- a step of a closed session gives nothing and changes nothing
pub record StepsClosed (old : SessionState) (given : List Response) (new : SessionState) : Type 0 where
  pub is_closed : old.is_closed ≡ true
  pub gives : given ≡ []
  pub leaves : new ≡ old

-- one step of a session
abbrev pub Steps : SessionState → Input → ℕ → List Response → SessionState → Type 0
Steps old input now given new = StepsClosed old given new ⊎ StepsOpen old input now given new

-- a step with these outputs
pub record StepsWith (old : SessionState) (input : Input) (now : ℕ) (outputs : List Output) (new : SessionState) : Type 0 where
  pub given : List Response
  pub steps : Steps old input now given new
  pub are_outputs : AreOutputs given outputs
