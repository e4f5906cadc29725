-- What a session does on a frame after a firm logs on (FIXT 1.1, Message Recovery and Rejects).
use Rattle.std.specs.Prelude.{◌+◌, ℕ, Bool, false, not, nat_le, nat_lt, [], ◌∷◌, Option, None, Some, Result, Ok, Err, codes, if◌then◌else◌}
use Rattle.std.specs.Option.{option_map_or}
use Rattle.std.specs.Str.{bytes_eq}
use Rattle.gu_terms.specs.declared.firm.FirmId.{FirmId}
use Rattle.gu_msgs.specs.Asking.{asked_on}
use Rattle.gu_msgs.specs.declared.asking.Asking.TheVariants as asking
use Rattle.gu_msgs.specs.declared.coded_values.BusinessRejectReason.TheVariants.{UnsupportedMessageType}
use Rattle.gu_msgs.specs.declared.coded_values.LogoutReason.TheVariants as logout
use Rattle.gu_msgs.specs.declared.fault.Fault.{Fault}
use Rattle.gu_msgs.specs.declared.inbound.Inbound.{Inbound}
use Rattle.gu_msgs.specs.declared.inbound.Inbound.TheVariants as inbound
use Rattle.gu_msgs.specs.declared.inbound.ResendRequest.{ResendRequest}
use Rattle.gu_msgs.specs.declared.outbound.Body.{Body}
use Rattle.gu_msgs.specs.declared.outbound.Application.TheVariants as application
use Rattle.gu_msgs.specs.declared.outbound.Body.TheVariants as body
use Rattle.gu_msgs.specs.declared.reject_reason.SessionRejectReason.{SessionRejectReason}
use Rattle.gu_msgs.specs.declared.reject_reason.SessionRejectReason.TheVariants.{CompIdProblem, ValueIsIncorrect}
use Rattle.gu_msgs.specs.declared.tags.TheConstants.{NEW_SEQ_NO, SENDER_COMP_ID, TARGET_COMP_ID}
use Rattle.gu_session.specs.Hearing.{is_given}
use Rattle.gu_session.specs.Plans.{hands, leaves, quiet, repeats, says}
use Rattle.gu_session.specs.declared.heard.Heading.{Heading}
use Rattle.gu_session.specs.declared.heard.Heard.{Heard}
use Rattle.gu_session.specs.declared.plan.Plan.{Plan}
use Rattle.gu_session.specs.declared.logged_on.LoggedOn.{LoggedOn}

-- a Reject for the message with this header and number: the tag at fault and the reason
abbrev pub reject : Heading → ℕ → ℕ → SessionRejectReason → Body
reject heading number tag reason =
    body.Reject (record { ref_seq_num = number; ref_tag_id = tag; ref_msg_type = heading.msg_type; reason = reason })

-- the number in a sound SequenceReset that isn't a gap fill, which applies whatever its own number is
abbrev pub reset_to : Result Inbound Fault → Option ℕ
reset_to (Ok (inbound.SequenceReset m)) = if m.is_gap_fill then None else Some m.new_seq_no
reset_to _ = None

-- a reset sets the expected number; one that lowers it is rejected, and nothing changes
abbrev pub on_reset : LoggedOn → Heading → ℕ → ℕ → Plan
on_reset at heading number to =
    if nat_le at.expected to then quiet (record at { expected = to })
    else says at (reject heading number NEW_SEQ_NO ValueIsIncorrect ∷ [])

-- the ResendRequest in a sound message, if it is one
abbrev pub again_in : Result Inbound Fault → Option ResendRequest
again_in (Ok (inbound.ResendRequest m)) = Some m
again_in _ = None

-- the number is too high: messages are missing, and are requested each time; a ResendRequest is served first, and a Logout, sound or not,
-- ends the session
abbrev pub too_high : LoggedOn → Heard → Plan
too_high at heard =
    if is_given (codes "5") heard.heading.msg_type then leaves at (body.Logout None ∷ [])
    else repeats at (again_in heard.content) (body.ResendRequest at.expected ∷ [])

-- the number is too low: a message marked PossDup is ignored, and any other ends the session
abbrev pub too_low : LoggedOn → Heading → Plan
too_low at heading = if heading.is_poss_dup then quiet at else leaves at (body.Logout (Some logout.SeqTooLow) ∷ [])

-- this firm is the sender
abbrev pub is_sender : FirmId → Option FirmId → Bool
is_sender firm sender = option_map_or (λ (named : FirmId). bytes_eq named.name firm.name) sender false

-- the tag of the first wrong party: the sender isn't the firm, or the target isn't the house
abbrev pub wrong_party : FirmId → Heading → Option ℕ
wrong_party firm heading =
    if not (is_sender firm heading.sender) then Some SENDER_COMP_ID
    else (if heading.is_to_house then None else Some TARGET_COMP_ID)

-- a gap fill sets the expected number, which must be above its own
abbrev pub on_gap_fill : LoggedOn → Heading → ℕ → ℕ → Plan
on_gap_fill at heading number to =
    if nat_lt number to then quiet (record at { expected = to })
    else says at (reject heading number NEW_SEQ_NO ValueIsIncorrect ∷ [])

-- a sound message with the expected number: its request to the house is handed out, and everything else concerns the session itself
abbrev pub on_message : LoggedOn → Heading → ℕ → Inbound → Plan
on_message at heading number inbound.Heartbeat = quiet at
on_message at heading number inbound.Reject = quiet at
on_message at heading number (inbound.TestRequest m) = says at (body.Heartbeat (Some m.test_req_id) ∷ [])
on_message at heading number (inbound.ResendRequest m) = repeats at (Some m) []
on_message at heading number (inbound.SequenceReset m) = on_gap_fill at heading number m.new_seq_no
on_message at heading number inbound.Logout = leaves at (body.Logout None ∷ [])
on_message at heading number (inbound.Logon m) = leaves at (body.Logout (Some logout.LoggedOn) ∷ [])
on_message at heading number (inbound.Unread code) =
    says at (body.Application (application.BusinessMessageReject (record { ref_seq_num = number; reason = UnsupportedMessageType code })) ∷ [])
on_message at heading number (inbound.TradeCaptureReport m) = hands at number (asking.Report m)
on_message at heading number (inbound.AllocationInstruction m) = hands at number (asking.GiveUp m)
on_message at heading number (inbound.AllocationReportAck m) = option_map_or (hands at number) (asked_on m.alloc_report_id m.alloc_status) (quiet at)
on_message at heading number (inbound.RequestForPositions m) = hands at number (asking.Positions m)

-- a message with the right parties, or its fault
abbrev pub on_content : LoggedOn → Heading → ℕ → Result Inbound Fault → Plan
on_content at heading number (Err fault) = says at (reject heading number fault.tag fault.reason ∷ [])
on_content at heading number (Ok message) = on_message at heading number message

-- a party is wrong: the message is rejected, and the session ends
abbrev pub on_wrong_party : LoggedOn → Heading → ℕ → ℕ → Plan
on_wrong_party at heading number tag = leaves at (reject heading number tag CompIdProblem ∷ body.Logout (Some logout.CompId) ∷ [])

-- the number was expected: the parties are tested first, then the message
abbrev pub as_expected : LoggedOn → Heard → ℕ → Plan
as_expected at heard number =
    option_map_or (on_wrong_party at heard.heading number) (wrong_party at.firm heard.heading) (on_content at heard.heading number heard.content)

-- compared with the expected number; if they are equal, the number is used up before anything else
abbrev pub by_number : LoggedOn → Heard → ℕ → Plan
by_number at heard number =
    if nat_lt at.expected number then too_high at heard
    else (if nat_lt number at.expected then too_low at heard.heading
    else as_expected (record at { expected = number + 1 }) heard number)

-- a reset comes before any rule about numbers
abbrev pub on_number : LoggedOn → Heard → ℕ → Plan
on_number at heard number = option_map_or (on_reset at heard.heading number) (reset_to heard.content) (by_number at heard number)

-- a frame without a valid number ends the session
abbrev pub frame_plan : LoggedOn → Heard → Plan
frame_plan at heard = option_map_or (on_number at heard) heard.heading.number (leaves at (body.Logout (Some logout.BadSeqNum) ∷ []))
