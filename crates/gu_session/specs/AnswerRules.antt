-- What a session does on the answer to a request that it handed out, and on a notice.
use Rattle.std.specs.Prelude.{ℕ, ◌==◌, List, [], ◌∷◌, Option, None, Some, find, option_and_then, if◌then◌else◌}
use Rattle.std.specs.Option.{option_map, option_map_or, option_to_list}
use Rattle.gu_terms.specs.declared.notice.Notice.{Notice}
use Rattle.gu_terms.specs.declared.reply.Reply.TheVariants.{Accepted, Denied}
use Rattle.gu_msgs.specs.Answering.{command_answer, is_done, notice_body, positions_answer}
use Rattle.gu_msgs.specs.declared.asking.Question.{Question}
use Rattle.gu_msgs.specs.declared.asking.Question.TheVariants as question
use Rattle.gu_msgs.specs.declared.outbound.Body.{Body}
use Rattle.gu_msgs.specs.declared.rejection.Rejection.{Rejection}
use Rattle.gu_msgs.specs.declared.rejection.Rejection.TheVariants as rejection
use Rattle.gu_session.specs.Plans.{answers, says}
use Rattle.gu_session.specs.declared.input.Failure.TheVariants.{Memory, Full}
use Rattle.gu_session.specs.declared.input.Outcome.{Outcome}
use Rattle.gu_session.specs.declared.input.Outcome.TheVariants.{Replied, Positions, Failed}
use Rattle.gu_session.specs.declared.plan.Course.{Course}
use Rattle.gu_session.specs.declared.plan.Course.TheVariants.{Stay, Go}
use Rattle.gu_session.specs.declared.logged_on.LoggedOn.{LoggedOn}
use Rattle.gu_session.specs.declared.logged_on.Waiting.{Waiting}

-- the result of a command: accepted, or why not; none if the outcome isn't of the kind asked for
abbrev pub entered : Question → Outcome → Option (Option Rejection)
entered question (Replied (Accepted done)) = if is_done question done then Some None else None
entered question (Replied (Denied refusal)) = Some (Some (rejection.Refused refusal))
entered question (Failed Memory) = Some (Some rejection.Memory)
entered question (Failed Full) = Some (Some rejection.Full)
entered question (Positions rows) = None

-- the answer to the command in the message with this number; none if the outcome isn't of its kind
abbrev pub command_messages : Question → ℕ → Outcome → Option (List Body)
command_messages question number outcome =
    option_map (λ (why : Option Rejection). option_to_list (command_answer question number why)) (entered question outcome)

-- the answer to the request in the message with this number; none if the outcome isn't of its kind
abbrev pub answer_messages : Question → ℕ → Outcome → Option (List Body)
answer_messages (question.Positions m) number (Positions rows) = Some (positions_answer m rows)
answer_messages (question.Positions m) number _ = None
answer_messages question number outcome = command_messages question number outcome

-- the waiting question with this reference
abbrev pub asked_by : ℕ → List Waiting → Option Waiting
asked_by reference waiting = find (λ (one : Waiting). one.reference == reference) waiting

-- the answer to the request with this reference; none if no question waits for it, or the outcome isn't of its kind
abbrev pub messages_to : List Waiting → ℕ → Outcome → Option (List Body)
messages_to waiting reference outcome =
    option_and_then (λ (one : Waiting). answer_messages one.question one.reference outcome) (asked_by reference waiting)

-- an answer is sent, if there is one
abbrev pub answer_course : LoggedOn → ℕ → Option (List Body) → Course
answer_course at reference messages = option_map_or (λ messages. Go (answers at reference messages)) messages Stay

-- an answer of the right kind to a waiting question is sent, and any other gives nothing
abbrev pub on_answer : LoggedOn → List Waiting → ℕ → Outcome → Course
on_answer at waiting reference outcome = answer_course at reference (messages_to waiting reference outcome)

-- a message is sent
abbrev pub message_course : LoggedOn → Body → Course
message_course at body = Go (says at (body ∷ []))

-- a notice is sent as its message
abbrev pub on_notice : LoggedOn → Notice → Course
on_notice at notice = message_course at (notice_body notice)
