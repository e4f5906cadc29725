-- Laws of a session over every run. Each is the contract of a public function.
use Rattle.std.specs.Prelude.{◌≡◌, ◌<◌, ◌≤◌, ◌+◌, ◌⊎◌, ℕ, true, false, List, [], ◌∷◌, length, None, Some, codes, is_some, ⊤}
use Rattle.std.specs.List.{AllByRecursion, filter_map}
use Rattle.circular_buffer.specs.Buffer.{keep_last}
use Rattle.gu_terms.specs.declared.firm.FirmId.{FirmId}
use Rattle.gu_msgs.specs.declared.inbound.ResendRequest.{ResendRequest}
use Rattle.gu_msgs.specs.declared.outbound.Body.TheVariants as body
use Rattle.gu_msgs.specs.declared.outbound.Outbound.{Outbound}
use Rattle.gu_session.specs.Applications.{application_of}
use Rattle.gu_session.specs.Encoded.{Response}
use Rattle.gu_session.specs.FrameRules.{by_number, reset_to}
use Rattle.gu_session.specs.Hearing.{is_given}
use Rattle.gu_session.specs.Resending.{behind_last, resent}
use Rattle.gu_session.specs.Runs.{CountsFrom, Runs, new_message, repeated_message}
use Rattle.gu_session.specs.Sending.{sent_in}
use Rattle.gu_session.specs.SeqNums.{greatest}
use Rattle.gu_session.specs.States.{SessionState, new_session}
use Rattle.gu_session.specs.Steps.{Steps}
use Rattle.gu_session.specs.declared.heard.Heard.{Heard}
use Rattle.gu_session.specs.declared.input.Input.{Input}
use Rattle.gu_session.specs.declared.logged_on.LoggedOn.{LoggedOn}

-- a session reached from its beginning, with everything that it gave
pub record IsReached (firms : List FirmId) (given : List Response) (s : SessionState) : Type 0 where
  pub inputs : List (Input × ℕ)
  pub runs : Runs (new_session firms) inputs given s

-- new messages are numbered 1, 2, 3 .., the next number follows them, and no number is above the greatest
pub record IsNumbered (given : List Response) (s : SessionState) : Type 0 where
  pub counts : CountsFrom 1 (filter_map new_message given)
  pub next : s.next ≡ 1 + length (filter_map new_message given)
  pub most : s.next ≤ greatest + 1

-- the messages of every run are numbered in this way
abbrev pub NumbersGoUpByOne : Type 0
NumbersGoUpByOne = (firms : List FirmId) (given : List Response) (s : SessionState) → IsReached firms given s → IsNumbered given s

-- the messages kept are the last 4,096 application messages sent
abbrev pub KeepsTheLastSent : Type 0
KeepsTheLastSent = (firms : List FirmId) (given : List Response) (s : SessionState) → IsReached firms given s →
    s.kept ≡ keep_last 4096 (filter_map sent_in (filter_map new_message given))

-- after the close nothing is given, and nothing changes
abbrev pub ClosedForGood : Type 0
ClosedForGood = (old new : SessionState) (inputs : List (Input × ℕ)) (given : List Response) →
    old.is_closed ≡ true → Runs old inputs given new → (given ≡ []) × (new ≡ old)

-- a frame above the expected number is answered with a request for all from that number on, each time, unless it is a reset or a Logout
abbrev pub AsksForTheGap : Type 0
AsksForTheGap = (at : LoggedOn) (heard : Heard) (number : ℕ) → at.expected < number →
    reset_to heard.content ≡ None → is_given (codes "5") heard.heading.msg_type ≡ false →
    (by_number at heard number).messages ≡ body.ResendRequest at.expected ∷ []

-- a message replaces the numbers from its own up to another: the message itself, or a gap fill for all of them
abbrev pub StandsUpTo : Outbound → ℕ → Type 0
StandsUpTo message to =
    ((is_some (application_of message.body) ≡ true) × (to ≡ message.msg_seq_num + 1))
    ⊎ ((message.body ≡ body.SequenceReset to) × (message.msg_seq_num < to))

-- messages replace all numbers from one up to another, each number once, in order
abbrev pub Covers : ℕ → ℕ → List Outbound → Type 0
Covers from to [] = from ≡ to
Covers from to (message ∷ messages) =
    (message.msg_seq_num ≡ from) × (behind : ℕ) × StandsUpTo message behind × Covers behind to messages

-- no gap fill follows another, so each run of numbers is filled by one
abbrev pub HasLongestRuns : List Outbound → Type 0
HasLongestRuns [] = ⊤
HasLongestRuns (message ∷ []) = ⊤
HasLongestRuns (message ∷ other ∷ messages) =
    ((is_some (application_of message.body) ≡ true) ⊎ (is_some (application_of other.body) ≡ true)) × HasLongestRuns (other ∷ messages)

-- how a request is served: each number from the first up to the last that was requested and sent is covered once, gap fills don't follow
-- one another, and nothing is given if the first wasn't sent
pub record IsServed (next : ℕ) (request : ResendRequest) (messages : List Outbound) : Type 0 where
  pub each_once : request.begin_seq_no ≤ behind_last next request.end_seq_no →
      Covers request.begin_seq_no (behind_last next request.end_seq_no) messages
  pub longest : HasLongestRuns messages
  pub none_above : next ≤ request.begin_seq_no → messages ≡ []

-- every session reached serves requests in this way
abbrev pub ServesWhatIsAsked : Type 0
ServesWhatIsAsked = (firms : List FirmId) (given : List Response) (s : SessionState) (firm : FirmId) (now : ℕ) (request : ResendRequest) →
    IsReached firms given s → IsServed s.next request (resent firm s.kept s.next now request)

-- one of these messages has this property
abbrev pub IsAmong : (Outbound → Type 0) → List Outbound → Type 0
IsAmong IsSuch [] = ⊥
IsAmong IsSuch (message ∷ messages) = IsSuch message ⊎ IsAmong IsSuch messages

-- a message is another sent again: with its number, its body and its sending time
pub record IsOnceMore (message first : Outbound) : Type 0 where
  pub number : message.msg_seq_num ≡ first.msg_seq_num
  pub time : message.orig_sending_time ≡ Some first.sending_time
  pub content : message.body ≡ first.body

-- a gap fill, whose original sending time is its own
pub record IsGapFill (message : Outbound) : Type 0 where
  pub to : ℕ
  pub content : message.body ≡ body.SequenceReset to
  pub time : message.orig_sending_time ≡ Some message.sending_time

-- a message is one of these sent again, or a gap fill
abbrev pub WasSent : List Outbound → Outbound → Type 0
WasSent before message = IsAmong (IsOnceMore message) before ⊎ IsGapFill message

-- every message that a step of a reached session sends again was sent before, or is a gap fill
abbrev pub ResendsWhatWasSent : Type 0
ResendsWhatWasSent = (firms : List FirmId) (before given : List Response) (s new : SessionState) (input : Input) (now : ℕ) →
    IsReached firms before s → Steps s input now given new → AllByRecursion (WasSent (filter_map new_message before)) (filter_map repeated_message given)

-- for a state, an input and a moment, there is at most one step
abbrev pub OneStep : Type 0
OneStep = (old new other : SessionState) (input : Input) (now : ℕ) (given others : List Response) →
    Steps old input now given new → Steps old input now others other → (given ≡ others) × (new ≡ other)
