-- What is sent again was sent before.
use Rattle.gu_session.proofs.Words.{◌≡◌, inl, inr, ℕ, ◌+◌, ◌-◌, Bool, cond, true, false, nat_lt, List, [], ◌∷◌, ◌++◌, map, filter, filter_map, drop, length, Option, None, Some, zero, suc, refl, ap, sym, subst, ◌∙◌, AllByRecursion, cons_option, append-nil, map-append, filter_map-append, FirmId, ResendRequest, Body, Outbound, application_of, Sends, IsAmong, IsOnceMore, ResendsWhatWasSent, WasSent, again, behind_last, gap, gap_fill, sent_within, with_gaps, if_again, new_message, repeated_message, ending_of, given_by, is_over, new_of, numbered, repeats_of, sent_in, SessionState, responses_of, Sent, Course, Stay, Leave, Go, Handed, Plan}
use Rattle.gu_msgs.specs.declared.outbound.Body.TheVariants as body
use Rattle.gu_msgs.specs.declared.outbound.Application.{Application}
use Rattle.gu_session.proofs.KeepingOn.{keeps_the_last}

-- the message whose application message is known
pub application_is : (content : Body) (message : Application) → application_of content ≡ Some message → body.Application message ≡ content
application_is (body.Logon interval resets) message is = absurd (cc)
application_is (body.Heartbeat id) message is = absurd (cc)
application_is body.TestRequest message is = absurd (cc)
application_is (body.ResendRequest from) message is = absurd (cc)
application_is (body.Reject m) message is = absurd (cc)
application_is (body.SequenceReset to) message is = absurd (cc)
application_is (body.Logout reason) message is = absurd (cc)
application_is (body.Application known) message is = cc

-- the kept form of a message
pub record IsKeptOf (sent : Sent) (message : Outbound) : Type 0 where
  pub number : sent.number ≡ message.msg_seq_num
  pub time : sent.time ≡ message.sending_time
  pub content : body.Application sent.message ≡ message.body

-- each of these is the kept form of one message
abbrev pub AreKeptOf : List Outbound → List Sent → Type 0
AreKeptOf messages kept = AllByRecursion (λ sent. IsAmong (IsKeptOf sent) messages) kept

-- with one more message
pub kept-more : (message : Outbound) (messages : List Outbound) (kept : List Sent) → AreKeptOf messages kept → AreKeptOf (message ∷ messages) kept
kept-more message messages [] each = tt
kept-more message messages (sent ∷ later) each = (inr each.0, kept-more message messages later each.1)

-- the kept form of all
pub kept-one : (message : Outbound) (messages : List Outbound) (found : Option Application) → application_of message.body ≡ found →
    AreKeptOf messages (filter_map sent_in messages) → AreKeptOf (message ∷ messages) (filter_map sent_in (message ∷ messages))
kept-one message messages None is rest = rw is (kept-more message messages (filter_map sent_in messages) rest)
kept-one message messages (Some found) is rest =
    rw is (inl (record { number = refl; time = refl; content = application_is message.body found is }), kept-more message messages (filter_map sent_in messages) rest)

pub kept-all : (messages : List Outbound) → AreKeptOf messages (filter_map sent_in messages)
kept-all [] = tt
kept-all (message ∷ messages) = kept-one message messages (application_of message.body) refl (kept-all messages)

-- the last of them, and those in a range
pub kept-drop : (n : ℕ) (messages : List Outbound) (kept : List Sent) → AreKeptOf messages kept → AreKeptOf messages (drop n kept)
kept-drop zero messages kept each = each
kept-drop (suc n) messages [] each = tt
kept-drop (suc n) messages (sent ∷ later) each = kept-drop n messages later each.1

pub kept-filter : (test : Sent → Bool) (messages : List Outbound) (kept : List Sent) → AreKeptOf messages kept → AreKeptOf messages (filter test kept)
kept-filter test messages [] each = tt
kept-filter test messages (sent ∷ later) each =
    elim (test sent) as (λ (b : Bool). AreKeptOf messages (cond b (sent ∷ filter test later) (filter test later))) [
      | true ↦ (each.0, kept-filter test messages later each.1)
      | false ↦ kept-filter test messages later each.1
    ]

-- the kept form of a message gives that message again
pub among-again : (firm : FirmId) (now : ℕ) (sent : Sent) (messages : List Outbound) → IsAmong (IsKeptOf sent) messages → IsAmong (IsOnceMore (again firm now sent)) messages
among-again firm now sent [] among = among
among-again firm now sent (message ∷ messages) (inl here) = inl (record { number = here.number; time = ap (λ (n : ℕ). Some n) here.time; content = here.content })
among-again firm now sent (message ∷ messages) (inr later) = inr (among-again firm now sent messages later)

-- a gap fill before others
pub sent-gap : (before : List Outbound) (firm : FirmId) (now from to : ℕ) (messages : List Outbound) → AllByRecursion (WasSent before) messages → AllByRecursion (WasSent before) (gap firm now from to ++ messages)
sent-gap before firm now from to messages each =
    elim (nat_lt from to) as (λ (b : Bool). AllByRecursion (WasSent before) (cond b (gap_fill firm now from to ∷ []) [] ++ messages)) [
      | true ↦ (inr (record { to = to; content = refl; time = refl }), each)
      | false ↦ each
    ]

pub sent-gaps : (before : List Outbound) (firm : FirmId) (now from to : ℕ) (kept : List Sent) → AreKeptOf before kept → AllByRecursion (WasSent before) (with_gaps firm now from to kept)
sent-gaps before firm now from to [] each = subst (λ (messages : List Outbound). AllByRecursion (WasSent before) messages) (append-nil (gap firm now from to)) (sent-gap before firm now from to [] tt)
sent-gaps before firm now from to (sent ∷ later) each =
    sent-gap before firm now from sent.number (again firm now sent ∷ with_gaps firm now (sent.number + 1) to later)
    (inl (among-again firm now sent before each.0), sent-gaps before firm now (sent.number + 1) to later each.1)

-- a message that was sent, before others
pub one_seen : (before : List Outbound) (message : Outbound) (time : Option ℕ) (others : List Outbound) → WasSent before message → AllByRecursion (WasSent before) others →
    AllByRecursion (WasSent before) (cons_option (if_again message time) others)
one_seen before message None others was rest = rest
one_seen before message (Some first) others was rest = (was, rest)

pub repeated-all : (before messages : List Outbound) → AllByRecursion (WasSent before) messages → AllByRecursion (WasSent before) (filter_map repeated_message (map Sends messages))
repeated-all before [] each = tt
repeated-all before (message ∷ messages) each = one_seen before message message.orig_sending_time (filter_map repeated_message (map Sends messages)) each.0 (repeated-all before messages each.1)

-- new messages aren't repeated
pub none_repeated-numbered : (firm : FirmId) (now number : ℕ) (bodies : List Body) → filter_map repeated_message (map Sends (numbered firm now number bodies)) ≡ []
none_repeated-numbered firm now number [] = refl
none_repeated-numbered firm now number (content ∷ bodies) = none_repeated-numbered firm now (number + 1) bodies

pub none_repeated-ending : (handed : Option Handed) (ends : Bool) → filter_map repeated_message (ending_of handed ends) ≡ []
none_repeated-ending None true = refl
none_repeated-ending None false = refl
none_repeated-ending (Some one) true = refl
none_repeated-ending (Some one) false = refl

-- the messages that a plan repeats
pub repeated-plan : (s : SessionState) (now : ℕ) (plan : Plan) → filter_map repeated_message (given_by s now plan) ≡ filter_map repeated_message (map Sends (repeats_of s now plan))
repeated-plan s now plan =
    let repeats = repeats_of s now plan in
    let new = new_of s now plan in
    filter_map-append repeated_message (map Sends (repeats ++ new)) (ending_of plan.handed plan.ends)
    ∙ ap (λ (messages : List Outbound). filter_map repeated_message (map Sends (repeats ++ new)) ++ messages) (none_repeated-ending plan.handed plan.ends)
    ∙ append-nil (filter_map repeated_message (map Sends (repeats ++ new)))
    ∙ ap (filter_map repeated_message) (map-append Sends repeats new)
    ∙ filter_map-append repeated_message (map Sends repeats) (map Sends new)
    ∙ ap (λ (messages : List Outbound). filter_map repeated_message (map Sends repeats) ++ messages) (none_repeated-numbered plan.after.firm now s.next plan.messages)
    ∙ append-nil (filter_map repeated_message (map Sends repeats))

pub sent-repeats : (before : List Outbound) (s : SessionState) (now : ℕ) (plan : Plan) (request : Option ResendRequest) → plan.again ≡ request → AreKeptOf before s.kept →
    AllByRecursion (WasSent before) (repeats_of s now plan)
sent-repeats before s now plan None is each = rw is tt
sent-repeats before s now plan (Some request) is each =
    let to = behind_last s.next request.end_seq_no in
    rw is (sent-gaps before plan.after.firm now request.begin_seq_no to (sent_within request.begin_seq_no to s.kept) (kept-filter _ before s.kept each))

pub sent-plan : (before : List Outbound) (s : SessionState) (now : ℕ) (plan : Plan) (over : Bool) → is_over s.next plan ≡ over → AreKeptOf before s.kept →
    AllByRecursion (WasSent before) (filter_map repeated_message (responses_of s now (Go plan)))
sent-plan before s now plan true over each = rw over tt
sent-plan before s now plan false over each =
    rw (over, repeated-plan s now plan) (repeated-all before (repeats_of s now plan) (sent-repeats before s now plan plan.again refl each))

pub sent-course : (before : List Outbound) (s : SessionState) (now : ℕ) (course : Course) → AreKeptOf before s.kept →
    AllByRecursion (WasSent before) (filter_map repeated_message (responses_of s now course))
sent-course before s now Stay each = tt
sent-course before s now Leave each = tt
sent-course before s now (Go plan) each = sent-plan before s now plan (is_over s.next plan) refl each

pub resends : ResendsWhatWasSent
resends firms before given s new input now reached steps =
    let messages = filter_map new_message before in
    let kept : AreKeptOf messages s.kept = subst (λ (kept : List Sent). AreKeptOf messages kept) (sym (keeps_the_last firms before s reached))
    (kept-drop (length (filter_map sent_in messages) - 4096) messages (filter_map sent_in messages) (kept-all messages)) in
    elim steps as (λ _. AllByRecursion (WasSent messages) (filter_map repeated_message given)) [
      | inl closed ↦ rw closed.gives tt
      | inr other ↦ rw other.gives (sent-course messages s now other.course kept)
    ]
