-- The effects of a plan: the messages sent, what else is given, and the session afterwards.
use Rattle.std.specs.Prelude.{◌+◌, ◌==◌, ℕ, Bool, true, not, nat_lt, List, [], ◌∷◌, ◌++◌, length, map, filter, Option, None, Some, if◌then◌else◌}
use Rattle.std.specs.List.{filter_map}
use Rattle.std.specs.Option.{option_map, option_map_or, option_to_list}
use Rattle.circular_buffer.specs.Buffer.{keep_last}
use Rattle.gu_terms.specs.declared.firm.FirmId.{FirmId}
use Rattle.gu_msgs.specs.Asking.{question_of, request_of}
use Rattle.gu_msgs.specs.declared.inbound.ResendRequest.{ResendRequest}
use Rattle.gu_msgs.specs.declared.outbound.Body.{Body}
use Rattle.gu_msgs.specs.declared.outbound.Outbound.{Outbound}
use Rattle.gu_session.specs.Applications.{application_of}
use Rattle.gu_session.specs.Encoded.{Response, Sends, Hands, Closes}
use Rattle.gu_session.specs.Resending.{resent}
use Rattle.gu_session.specs.SeqNums.{greatest}
use Rattle.gu_session.specs.States.{SessionState}
use Rattle.gu_msgs.specs.declared.outbound.Application.{Application}
use Rattle.gu_session.specs.declared.sent_ring.Sent.{Sent}
use Rattle.gu_session.specs.declared.output.Asked.{Asked}
use Rattle.gu_session.specs.declared.plan.Handed.{Handed}
use Rattle.gu_session.specs.declared.plan.Plan.{Plan}
use Rattle.gu_session.specs.declared.logged_on.Waiting.{Waiting}

-- new messages to a firm, with numbers starting at this one
abbrev pub numbered : FirmId → ℕ → ℕ → List Body → List Outbound
numbered firm now number [] = []
numbered firm now number (body ∷ bodies) =
    record { firm = firm; msg_seq_num = number; sending_time = now; orig_sending_time = None; body = body }
    ∷ numbered firm now (number + 1) bodies

-- a plan needs a number above the greatest, given the next number
abbrev pub is_over : ℕ → Plan → Bool
is_over next plan = nat_lt (greatest + 1) (next + length plan.messages)

-- the messages that a plan sends again
abbrev pub repeats_of : SessionState → ℕ → Plan → List Outbound
repeats_of s now plan = option_map_or (λ (request : ResendRequest). resent plan.after.firm s.kept s.next now request) plan.again []

-- the new messages of a plan
abbrev pub new_of : SessionState → ℕ → Plan → List Outbound
new_of s now plan = numbered plan.after.firm now s.next plan.messages

-- the messages that a plan sends: first those sent again, then new ones
abbrev pub sent_by : SessionState → ℕ → Plan → List Outbound
sent_by s now plan = repeats_of s now plan ++ new_of s now plan

-- the request to the house, with its reference
abbrev pub asked_of : Handed → Asked
asked_of handed = record { what = request_of handed.firm handed.asking; reference = handed.reference }

-- the data that its answer needs
abbrev pub waiting_for : Handed → Waiting
waiting_for handed = record { reference = handed.reference; question = question_of handed.asking }

-- the request that a plan hands out
abbrev pub handed_by : Option Handed → List Response
handed_by None = []
handed_by (Some handed) = Hands (asked_of handed) ∷ []

-- the responses after the messages: the request handed out, then the end
abbrev pub ending_of : Option Handed → Bool → List Response
ending_of handed ends = handed_by handed ++ (if ends then Closes ∷ [] else [])

-- the responses of a plan: its messages, the request handed out, and the end
abbrev pub given_by : SessionState → ℕ → Plan → List Response
given_by s now plan = map Sends (sent_by s now plan) ++ ending_of plan.handed plan.ends

-- the form in which a message is kept: an application message as first sent; none for any other
abbrev pub sent_in : Outbound → Option Sent
sent_in message =
    option_map (λ (application : Application). record { number = message.msg_seq_num; time = message.sending_time; message = application })
    (application_of message.body)

-- the messages kept after new ones are sent: the last 4,096 application messages
abbrev pub kept_after : List Sent → List Outbound → List Sent
kept_after kept messages = keep_last 4096 (kept ++ filter_map sent_in messages)

-- the waiting requests without the one answered
abbrev pub unanswered : Option ℕ → List Waiting → List Waiting
unanswered None waiting = waiting
unanswered (Some reference) waiting = filter (λ (one : Waiting). not (one.reference == reference)) waiting

-- the unanswered requests after a plan
abbrev pub waiting_after : List Waiting → Plan → List Waiting
waiting_after waiting plan =
    unanswered plan.answered (waiting ++ option_to_list (option_map waiting_for plan.handed))

-- the time of the last sending, including messages sent again, after this many are sent
abbrev pub sent_at_after : ℕ → ℕ → ℕ → ℕ
sent_at_after sent_at now count = if nat_lt 0 count then now else sent_at

-- the session after a plan
abbrev pub behind : SessionState → ℕ → Plan → SessionState
behind s now plan = record {
  firms = s.firms;
  at = Some plan.after;
  next = s.next + length plan.messages;
  sent_at = sent_at_after s.sent_at now (length (sent_by s now plan));
  kept = kept_after s.kept (new_of s now plan);
  waiting = waiting_after s.waiting plan;
  is_closed = plan.ends;
}

-- the session after it is closed
abbrev pub closed : SessionState → SessionState
closed s = record s { is_closed = true }
