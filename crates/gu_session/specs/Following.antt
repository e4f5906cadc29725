-- Machinery: carrying out a course. No other crate names this file.
use Rattle.std.specs.Prelude.{◌≡◌, ◌+◌, ◌++◌, ℕ, List, [], ◌∷◌, Option, None, Some}
use Rattle.std.specs.List.{filter_map, flat_map, list_any}
use Rattle.std.specs.Option.{option_map, option_map_or, option_to_list}
use Rattle.gu_terms.specs.declared.firm.FirmId.{FirmId}
use Rattle.gu_msgs.specs.declared.asking.Asking.{Asking}
use Rattle.gu_msgs.specs.declared.outbound.Body.{Body}
use Rattle.gu_session.specs.Encoded.{AreOutputs}
use Rattle.gu_session.specs.Outputs.{bytes_in, handed_in, is_close}
use Rattle.gu_session.specs.FrameRules.{wrong_party}
use Rattle.gu_session.specs.Plans.{hands, says}
use Rattle.gu_session.specs.States.{SessionState}
use Rattle.gu_session.specs.Steps.{at_frame, responses_of, session_after}
use Rattle.gu_session.specs.declared.heard.Heading.{Heading}
use Rattle.gu_session.specs.declared.logged_on.LoggedOn.{LoggedOn}
use Rattle.gu_session.specs.declared.output.Output.{Output}
use Rattle.gu_session.specs.declared.output.Taken.{Taken}
use Rattle.gu_session.specs.declared.plan.Course.{Course}
use Rattle.gu_session.specs.declared.plan.Course.TheVariants.{Go, Stay}
use Rattle.gu_session.specs.declared.plan.Plan.{Plan}

-- the firm that is logged on
abbrev pub firm_of : Option LoggedOn → Option FirmId
firm_of at = option_map (λ at. at.firm) at

-- one message is sent, which may answer a request
abbrev pub one_message : LoggedOn → Body → Option ℕ → Plan
one_message at body answered = record (says at (body ∷ [])) { answered = answered }

-- once a firm is logged on, one message is sent
abbrev pub one_message_course : Option LoggedOn → Body → Option ℕ → Course
one_message_course at body answered = option_map_or (λ at. Go (one_message at body answered)) at Stay

-- the session's state after a frame with the expected number
abbrev pub at_expected : LoggedOn → ℕ → ℕ → LoggedOn
at_expected at now number = record (at_frame at now) { expected = number + 1 }

-- the request in a message with the expected number is handed out
abbrev pub request_course : Option LoggedOn → ℕ → Asking → ℕ → Course
request_course at number asking now = option_map_or (λ at. Go (hands (at_expected at now number) number asking)) at Stay

-- a frame with this header has this number, which was expected, and the right parties
abbrev pub IsInTurn : Option LoggedOn → Heading → ℕ → Type 0
IsInTurn None heading number = ⊥
IsInTurn (Some at) heading number = (heading.number ≡ Some number) × (number ≡ at.expected) × (wrong_party at.firm heading ≡ None)

-- a course is carried out: all its responses are given
pub record Follows (old : SessionState) (course : Course) (now : ℕ) (outputs : List Output) (new : SessionState) : Type 0 where
  pub are_outputs : AreOutputs (responses_of old now course) outputs
  pub leaves : new ≡ session_after old now course

-- a course is carried out: its messages' bytes are appended to a text, in order; its request, and whether it ends the session, are returned
pub record FollowsOnto (old : SessionState) (course : Course) (now : ℕ) (before after : List ℕ) (taken : Taken) (new : SessionState) : Type 0 where
  pub outputs : List Output
  pub are_outputs : AreOutputs (responses_of old now course) outputs
  pub leaves : new ≡ session_after old now course
  pub text : after ≡ before ++ flat_map bytes_in outputs
  pub handed : option_to_list taken.handed ≡ filter_map handed_in outputs
  pub close : taken.is_closed ≡ list_any is_close outputs
