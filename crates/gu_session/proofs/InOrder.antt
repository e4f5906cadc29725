-- What the rules hand out: the request in the message with the expected number.
use Rattle.gu_session.proofs.Words.{◌≡◌, ◌≤◌, ◌+◌, ℕ, Bool, true, false, cond, nat_le, nat_lt, [], ◌∷◌, Option, None, Some, Result, Ok, Err, codes, refl, arith, option_map_or, hands, leaves, quiet, repeats, says, Heard, Handed, Plan, LoggedOn}
use Rattle.gu_msgs.specs.Asking.{asked_on}
use Rattle.gu_msgs.specs.declared.coded_values.LogoutReason.TheVariants.{BadSeqNum, SeqTooLow}
use Rattle.gu_msgs.specs.declared.fault.Fault.{Fault}
use Rattle.gu_msgs.specs.declared.inbound.Inbound.{Inbound}
use Rattle.gu_msgs.specs.declared.inbound.Inbound.TheVariants as inbound
use Rattle.gu_msgs.specs.declared.outbound.Body.TheVariants as body
use Rattle.gu_msgs.specs.declared.reject_reason.SessionRejectReason.TheVariants.{ValueIsIncorrect}
use Rattle.gu_msgs.specs.declared.tags.TheConstants.{NEW_SEQ_NO}
use Rattle.gu_session.specs.FrameRules.{again_in, as_expected, by_number, frame_plan, on_content, on_gap_fill, on_message, on_number, on_reset, on_wrong_party, reject, reset_to, too_high, too_low, wrong_party}
use Rattle.gu_session.specs.Hearing.{is_given}
use Rattle.gu_session.specs.declared.heard.Heading.{Heading}

-- the request handed out has this number, and the next one is expected after it
abbrev pub HandsNext : ℕ → Option Handed → LoggedOn → Type 0
HandsNext expected None after = Unit {0}
HandsNext expected (Some handed) after = (expected ≡ handed.reference) × (after.expected ≡ handed.reference + 1)

-- a plan when this number was expected: it hands out nothing else, and never goes back
pub record IsInOrder (expected : ℕ) (plan : Plan) : Type 0 where
  pub hands : HandsNext expected plan.handed plan.after
  pub on : expected ≤ plan.after.expected

-- a choice between plans
pub in_order-if : (expected : ℕ) (test : Bool) (x y : Plan) → (test ≡ true → IsInOrder expected x) → (test ≡ false → IsInOrder expected y) →
    IsInOrder expected (cond test x y)
in_order-if expected true x y first second = first refl
in_order-if expected false x y first second = second refl

-- the plan from an optional value
pub in_order-option : {A : Type 0} (expected : ℕ) (rule : A → Plan) (found : Option A) (other : Plan) → ((a : A) → IsInOrder expected (rule a)) → IsInOrder expected other →
    IsInOrder expected (option_map_or rule found other)
in_order-option expected rule None other some none = none
in_order-option expected rule (Some a) other some none = some a

-- nothing is handed out
pub nothing_handed : (expected : ℕ) (plan : Plan) → plan.handed ≡ None → expected ≤ plan.after.expected → IsInOrder expected plan
nothing_handed expected plan none on = record { hands = rw none tt; on = on }

pub gap_fill_in_order : (at : LoggedOn) (heading : Heading) (number to : ℕ) → at.expected ≡ number + 1 → IsInOrder number (on_gap_fill at heading number to)
gap_fill_in_order at heading number to used =
    in_order-if number (nat_lt number to) (quiet (record at { expected = to })) (says at (reject heading number NEW_SEQ_NO ValueIsIncorrect ∷ []))
    (λ above. record { hands = tt; on = grind (arith, above) }) (λ below. record { hands = tt; on = omega (arith, used) })

pub message_in_order : (at : LoggedOn) (heading : Heading) (number : ℕ) (message : Inbound) → at.expected ≡ number + 1 → IsInOrder number (on_message at heading number message)
message_in_order at heading number inbound.Heartbeat used = record { hands = tt; on = omega (arith, used) }
message_in_order at heading number inbound.Reject used = record { hands = tt; on = omega (arith, used) }
message_in_order at heading number (inbound.TestRequest m) used = record { hands = tt; on = omega (arith, used) }
message_in_order at heading number (inbound.ResendRequest m) used = record { hands = tt; on = omega (arith, used) }
message_in_order at heading number (inbound.SequenceReset m) used = gap_fill_in_order at heading number m.new_seq_no used
message_in_order at heading number inbound.Logout used = record { hands = tt; on = omega (arith, used) }
message_in_order at heading number (inbound.Logon m) used = record { hands = tt; on = omega (arith, used) }
message_in_order at heading number (inbound.Unread code) used = record { hands = tt; on = omega (arith, used) }
message_in_order at heading number (inbound.TradeCaptureReport m) used = record { hands = (refl, used); on = omega (arith, used) }
message_in_order at heading number (inbound.AllocationInstruction m) used = record { hands = (refl, used); on = omega (arith, used) }
message_in_order at heading number (inbound.AllocationReportAck m) used =
    in_order-option number (hands at number) (asked_on m.alloc_report_id m.alloc_status) (quiet at)
    (λ asking. record { hands = (refl, used); on = omega (arith, used) }) (record { hands = tt; on = omega (arith, used) })
message_in_order at heading number (inbound.RequestForPositions m) used = record { hands = (refl, used); on = omega (arith, used) }

pub content_in_order : (at : LoggedOn) (heading : Heading) (number : ℕ) (content : Result Inbound Fault) → at.expected ≡ number + 1 → IsInOrder number (on_content at heading number content)
content_in_order at heading number (Ok message) used = message_in_order at heading number message used
content_in_order at heading number (Err fault) used = record { hands = tt; on = omega (arith, used) }

pub expected_in_order : (at : LoggedOn) (heard : Heard) (number : ℕ) → at.expected ≡ number + 1 → IsInOrder number (as_expected at heard number)
expected_in_order at heard number used =
    in_order-option number (on_wrong_party at heard.heading number) (wrong_party at.firm heard.heading) (on_content at heard.heading number heard.content) (λ tag. record { hands = tt; on = omega (arith, used) }) (content_in_order at heard.heading number heard.content used)

pub high_in_order : (at : LoggedOn) (heard : Heard) → IsInOrder at.expected (too_high at heard)
high_in_order at heard =
    in_order-if at.expected (is_given (codes "5") heard.heading.msg_type) (leaves at (body.Logout None ∷ [])) (repeats at (again_in heard.content) (body.ResendRequest at.expected ∷ []))
    (λ is. record { hands = tt; on = omega arith }) (λ is. record { hands = tt; on = omega arith })

pub low_in_order : (at : LoggedOn) (heading : Heading) → IsInOrder at.expected (too_low at heading)
low_in_order at heading =
    in_order-if at.expected heading.is_poss_dup (quiet at) (leaves at (body.Logout (Some SeqTooLow) ∷ []))
    (λ is. record { hands = tt; on = omega arith }) (λ is. record { hands = tt; on = omega arith })

-- the expected number is the frame's own if that is neither above nor below
pub met_in_order : (at : LoggedOn) (heard : Heard) (number : ℕ) → at.expected ≡ number → IsInOrder at.expected (as_expected (record at { expected = number + 1 }) heard number)
met_in_order at heard number met = rw met (expected_in_order (record at { expected = number + 1 }) heard number refl)

pub number_in_order : (at : LoggedOn) (heard : Heard) (number : ℕ) → IsInOrder at.expected (by_number at heard number)
number_in_order at heard number =
    in_order-if at.expected (nat_lt at.expected number) (too_high at heard)
    (cond (nat_lt number at.expected) (too_low at heard.heading) (as_expected (record at { expected = number + 1 }) heard number))
    (λ above. high_in_order at heard)
    (λ not_above. in_order-if at.expected (nat_lt number at.expected) (too_low at heard.heading) (as_expected (record at { expected = number + 1 }) heard number)
    (λ below. low_in_order at heard.heading) (λ not_below. met_in_order at heard number (grind (arith, not_above, not_below))))

pub reset_in_order : (at : LoggedOn) (heading : Heading) (number to : ℕ) → IsInOrder at.expected (on_reset at heading number to)
reset_in_order at heading number to =
    in_order-if at.expected (nat_le at.expected to) (quiet (record at { expected = to })) (says at (reject heading number NEW_SEQ_NO ValueIsIncorrect ∷ []))
    (λ up. record { hands = tt; on = grind (arith, up) }) (λ down. record { hands = tt; on = omega arith })

pub frame_in_order : (at : LoggedOn) (heard : Heard) → IsInOrder at.expected (frame_plan at heard)
frame_in_order at heard =
    in_order-option at.expected (on_number at heard) heard.heading.number (leaves at (body.Logout (Some BadSeqNum) ∷ []))
    (λ number. in_order-option at.expected (on_reset at heard.heading number) (reset_to heard.content) (by_number at heard number)
    (λ to. reset_in_order at heard.heading number to) (number_in_order at heard number))
    (record { hands = tt; on = omega arith })
