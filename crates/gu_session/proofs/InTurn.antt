-- Frames whose number was expected, from the right parties.
use Rattle.gu_session.proofs.Words.{◌≡◌, ◌+◌, ◌≤◌, ℕ, false, List, Option, None, Some, Result, Ok, refl, ap, sym, subst, ◌∙◌, arith, asked_in, FollowsOnto, at_expected, request_course, behind, SessionState, at_frame, frame_course, hands, Heard, FirmId, LoggedOn, Go}
use Rattle.std.proofs.lemmas.Bool.{le-ltb}
use Rattle.gu_msgs.specs.declared.asking.Asking.{Asking}
use Rattle.gu_msgs.specs.declared.asking.Asking.TheVariants as asking
use Rattle.gu_msgs.specs.declared.fault.Fault.{Fault}
use Rattle.gu_msgs.specs.declared.inbound.AllocationInstruction.{AllocationInstruction}
use Rattle.gu_msgs.specs.declared.inbound.Inbound.{Inbound}
use Rattle.gu_msgs.specs.declared.inbound.Inbound.TheVariants as inbound
use Rattle.gu_msgs.specs.declared.inbound.TradeCaptureReport.{TradeCaptureReport}
use Rattle.gu_session.specs.Following.{IsInTurn}
use Rattle.gu_session.specs.FrameRules.{frame_plan, on_message, reset_to}
use Rattle.gu_session.specs.declared.heard.Heading.{Heading}
use Rattle.gu_session.specs.declared.output.Taken.{Taken}
use Rattle.gu_session.proofs.OntoLemmas.{follow-none, sent_followed}

-- a message that is no reset goes by its content
pub in_turn : (at : LoggedOn) (heading : Heading) (message : Inbound) (number now : ℕ) → IsInTurn (Some at) heading number → reset_to (Ok message) ≡ None →
    frame_plan (at_frame at now) (record { heading = heading; content = Ok message }) ≡ on_message (at_expected at now number) heading number message
in_turn at heading message number now (numbered, expected, parties) reset =
    rw (numbered, reset, expected, le-ltb at.expected at.expected (omega arith), parties) refl

-- a report is handed out
pub report_in_turn : (firms : List FirmId) (at : Option LoggedOn) (heard : Heard) (m : TradeCaptureReport) (number now : ℕ) → IsInTurn at heard.heading number →
    heard.content ≡ Ok (inbound.TradeCaptureReport m) → frame_course firms at heard now ≡ request_course at number (asking.Report m) now
report_in_turn firms None heard m number now is content = absurd is
report_in_turn firms (Some at) heard m number now is content =
    ap (λ (content : Result Inbound Fault). Go (frame_plan (at_frame at now) (record { heading = heard.heading; content = content }))) content
    ∙ ap Go (in_turn at heard.heading (inbound.TradeCaptureReport m) number now is refl)

-- a give-up is handed out
pub give_up_in_turn : (firms : List FirmId) (at : Option LoggedOn) (heard : Heard) (m : AllocationInstruction) (number now : ℕ) → IsInTurn at heard.heading number →
    heard.content ≡ Ok (inbound.AllocationInstruction m) → frame_course firms at heard now ≡ request_course at number (asking.GiveUp m) now
give_up_in_turn firms None heard m number now is content = absurd is
give_up_in_turn firms (Some at) heard m number now is content =
    ap (λ (content : Result Inbound Fault). Go (frame_plan (at_frame at now) (record { heading = heard.heading; content = content }))) content
    ∙ ap Go (in_turn at heard.heading (inbound.AllocationInstruction m) number now is refl)

-- a request is handed out, and nothing is sent
pub request_followed : (s new : SessionState) (at : LoggedOn) (number : ℕ) (asking : Asking) (now : ℕ) (text : List ℕ) (taken : Taken) → s.at ≡ Some at → s.next ≤ 1000000001 →
    new ≡ behind s now (hands (at_expected at now number) number asking) → taken.handed ≡ asked_in (hands (at_expected at now number) number asking).handed → taken.is_closed ≡ false →
    FollowsOnto s (request_course s.at number asking now) now text text taken new
request_followed s new at number asking now text taken is most behind_is handed close =
    let plan = hands (at_expected at now number) number asking in
    subst (λ (o : Option LoggedOn). FollowsOnto s (request_course o number asking now) now text text taken new) (sym is)
    (sent_followed s new now plan text text taken (le-ltb 1000000001 (s.next + 0) (omega (arith, most))) (follow-none text) handed close behind_is)
