-- The exchange of one session with a house: the answers to its input, turn by turn.
use Rattle.std.specs.Prelude.{◌≡◌, ◌||◌, ◌&&◌, ◌∷◌, ◌++◌, ℕ, Bool, true, false, not, is_some, List, [], Option, None, Some}
use Rattle.std.specs.List.{filter_map, flat_map, list_any}
use Rattle.std.specs.Io.KnownBytes.{Consumes, Keeps}
use Rattle.std.specs.Option.{option_map, option_to_list}
use Rattle.gu_terms.specs.declared.firm.FirmId.{FirmId}
use Rattle.gu_terms.specs.declared.notice.Notice.{Notice as NoticeOf}
use Rattle.gu_terms.specs.declared.notice.Stretch.{Stretch}
use Rattle.gu_session.specs.Outputs.{bytes_in, handed_in, is_close, IsAskedBy}
use Rattle.gu_session.specs.States.{SessionState, new_session}
use Rattle.gu_session.specs.Steps.{StepsWith}
use Rattle.gu_session.specs.declared.input.Input.{Input}
use Rattle.gu_session.specs.declared.input.Input.TheVariants.{Frame, Notice, Answer, Tick, End, Close}
use Rattle.gu_session.specs.declared.logged_on.LoggedOn.{LoggedOn}
use Rattle.gu_session.specs.declared.output.Asked.{Asked}
use Rattle.gu_session.specs.declared.output.Output.{Output}
use Rattle.gu_streams.specs.Streams.{Streams}
use Rattle.gu_engine.specs.Houses.{AnswersAsk, HouseRules}
use Rattle.gu_engine.specs.Running.{AnswersEach, Engine, Served, ServedInPart, ServedSoFar}
use Rattle.gu_engine.specs.declared.connection.Connection.{Connection}
use Rattle.gu_engine.specs.declared.conversation.Conversation.{Conversation}
use Rattle.gu_engine.specs.declared.event.Event.{Event}
use Rattle.gu_engine.specs.declared.event.Event.TheVariants as event
use Rattle.gu_engine.specs.declared.house.Answered.{Answered}
use Rattle.gu_engine.specs.declared.house.Ask.{Ask}

-- the logged-on firm
abbrev pub firm_of : SessionState → Option FirmId
firm_of session = option_map (λ (at : LoggedOn). at.firm) session.at

-- a firm asks this of the house, in the message with this number, which arrived at this moment
pub record IsAskOf (asked : Asked) (now : ℕ) (ask : Ask) : Type 0 where
  pub firm : IsAskedBy ask.firm asked.what
  pub number_is : ask.number ≡ asked.reference
  pub now_is : ask.now ≡ now
  pub request_is : ask.request ≡ asked.what

-- a conversation before its first turn: one of these firms may log on, and its notices begin with the first entry
abbrev pub new_conversation : List FirmId → Conversation
new_conversation firms = record { session = new_session firms; next = 1; is_behind = false; is_over = false }

module _ {H C : Type 0} where
  -- a connection that resumes a conversation with this house and this clock
  abbrev pub resumed : Conversation → H → C → Connection H C
  resumed conversation house clock = record {
    house = house;
    session = conversation.session;
    next = conversation.next;
    is_behind = conversation.is_behind;
    clock = clock;
    is_over = conversation.is_over;
  }

  -- a connection without its house and its clock
  abbrev pub conversation_of : Connection H C → Conversation
  conversation_of connection = record {
    session = connection.session;
    next = connection.next;
    is_behind = connection.is_behind;
    is_over = connection.is_over;
  }

  -- a connection before its first turn: one of these firms may log on, and its notices begin with the first entry
  pub record IsNew (connection : Connection H C) (firms : List FirmId) (house : H) (clock : C) : Type 0 where
    pub session : connection.session ≡ new_session firms
    pub house_is : connection.house ≡ house
    pub clock_is : connection.clock ≡ clock
    pub first_entry : connection.next ≡ 1
    pub nothing_due : connection.is_behind ≡ false
    pub is_open : connection.is_over ≡ false

  -- A session takes an input at a moment: it makes this request to the house, if any, and sends these bytes. Its end ends the connection.
  pub record TakesInput (old : Connection H C) (input : Input) (now : ℕ) (asked : Option Asked) (text : List ℕ) (new : Connection H C) : Type 0 where
    pub outputs : List Output
    pub session : SessionState
    pub steps : StepsWith old.session input now outputs session
    pub asked_is : option_to_list asked ≡ filter_map handed_in outputs
    pub text_is : text ≡ flat_map bytes_in outputs
    pub new_is : new ≡ record old { session = session; is_over = old.is_over || list_any is_close outputs }

  -- notices of what was entered may be due, and nothing is sent for now
  pub record Waits (old : Connection H C) (text : List ℕ) (new : Connection H C) : Type 0 where
    pub text_is : text ≡ []
    pub new_is : new ≡ record old { is_behind = true }

  -- a notice is sent
  pub record SendsNotice (now : ℕ) (old : Connection H C) (notice : NoticeOf) (text : List ℕ) (new : Connection H C) : Type 0 where
    pub asked : Option Asked
    pub taken : TakesInput old (Notice notice) now asked text new

  -- a batch of the notices that the firm hasn't received is sent, and more are due until it has received the last
  abbrev pub SendsStretch : ℕ → Connection H C → Stretch → List ℕ → Connection H C → Type 0
  SendsStretch now old stretch text new =
      AnswersEach (SendsNotice now) (record old { next = stretch.notices.next; is_behind = not stretch.is_last }) stretch.notices.list.items text new

  -- the notices that the house added to its answer are sent; if it added none, some may be due
  abbrev pub SendsAny : ℕ → Connection H C → Option Stretch → List ℕ → Connection H C → Type 0
  SendsAny now old None text new = Waits old text new
  SendsAny now old (Some stretch) text new = SendsStretch now old stretch text new

  -- a request to the house is answered at once, the session takes the answer, and the notices that the house adds follow
  pub record AnswersAsked (rules : HouseRules H) (now : ℕ) (old : Connection H C) (asked : Asked) (text : List ℕ) (new : Connection H C) : Type 0 where
    pub ask : Ask
    pub is_ask : IsAskOf asked now ask
    pub answered : Answered
    pub house : H
    pub answers : AnswersAsk rules old.house ask old.next answered house
    pub further : Option Asked
    pub heard : Connection H C
    pub answer : List ℕ
    pub told : List ℕ
    pub taken : TakesInput (record old { house = house }) (Answer asked.reference answered.outcome) now further answer heard
    pub sends : SendsAny now heard answered.stretch told new
    pub parts : text ≡ answer ++ told

  -- the same; without a request, notices may be due all the same
  abbrev pub AnswersAny : HouseRules H → ℕ → Connection H C → Option Asked → List ℕ → Connection H C → Type 0
  AnswersAny rules now old None text new = Waits old text new
  AnswersAny rules now old (Some asked) text new = AnswersAsked rules now old asked text new

  -- a frame: what the session sends, then the answer to its request, with notices for the firm; or notices may be due then
  pub record AnswersFrame (rules : HouseRules H) (now : ℕ) (old : Connection H C) (frame text : List ℕ) (new : Connection H C) : Type 0 where
    pub asked : Option Asked
    pub heard : Connection H C
    pub sent : List ℕ
    pub answer : List ℕ
    pub hears : TakesInput old (Frame frame) now asked sent heard
    pub answers : AnswersAny rules now heard asked answer new
    pub parts : text ≡ sent ++ answer

  -- the logged-on firm is sent a batch of the notices that it hasn't received
  pub record TellsStretch (rules : HouseRules H) (now : ℕ) (old : Connection H C) (text : List ℕ) (new : Connection H C) : Type 0 where
    pub firm : FirmId
    pub logged_on : firm_of old.session ≡ Some firm
    pub stretch : Stretch
    pub house : H
    pub told : rules.tells old.house firm old.next stretch house
    pub sent : SendsStretch now (record old { house = house }) stretch text new

  -- notices are due to a logged-on firm that may not have received the last, unless the connection is over
  abbrev pub is_due : Connection H C → Bool
  is_due connection = connection.is_behind && not connection.is_over && is_some (firm_of connection.session)

  -- a turn is over: the session takes a tick
  pub record Ticks (now : ℕ) (old : Connection H C) (text : List ℕ) (new : Connection H C) : Type 0 where
    pub asked : Option Asked
    pub taken : TakesInput old Tick now asked text new

  -- the session is closed, as the house closes
  pub record ClosesSession (now : ℕ) (old : Connection H C) (text : List ℕ) (new : Connection H C) : Type 0 where
    pub asked : Option Asked
    pub taken : TakesInput old Close now asked text new

  -- the session's input ends, and it sends nothing
  pub record EndsSession (old new : Connection H C) : Type 0 where
    pub now : ℕ
    pub asked : Option Asked
    pub taken : TakesInput old End now asked [] new

  -- a turn begins at the next moment that the clock gives
  pub record BeginsAt (ahead : C → Option (List ℕ)) (old : Connection H C) (now : ℕ) (new : Connection H C) : Type 0 where
    pub given : Consumes (ahead old.clock) (ahead new.clock) (now ∷ [])
    pub new_is : new ≡ record old { clock = new.clock }

  -- a turn can't begin, because the clock fails
  pub record ClockFails (ahead : C → Option (List ℕ)) (has_failed : C → Bool) (old new : Connection H C) : Type 0 where
    pub failed : has_failed new.clock ≡ true
    pub kept : Keeps (ahead old.clock) (ahead new.clock)
    pub new_is : new ≡ record old { clock = new.clock }

  -- the answer to an event
  abbrev pub AnswersEvent : HouseRules H → ℕ → Connection H C → Event → List ℕ → Connection H C → Type 0
  AnswersEvent rules now old (event.Frame frame) text new = AnswersFrame rules now old frame text new
  AnswersEvent rules now old event.Silence text new = Waits old text new
  AnswersEvent rules now old event.More text new = TellsStretch rules now old text new
  AnswersEvent rules now old event.Over text new = Ticks now old text new

  -- the exchange as an engine: events are answered at the moment of their turn, notices follow each frame, until the connection is over
  abbrev pub exchange : HouseRules H → (C → Option (List ℕ)) → (C → Bool) → Engine (Connection H C)
  exchange rules ahead has_failed = record {
    begins = BeginsAt ahead;
    answers = AnswersEvent rules;
    stops = ClockFails ahead has_failed;
    is_due = is_due;
    is_done = λ (connection : Connection H C). connection.is_over;
  }

-- What the reader gave, up to its end or the session's, is exchanged for what was written, turn by turn, and the session's input is ended.
pub record Exchanged {H C : Type 0} (rules : HouseRules H) (ahead : C → Option (List ℕ)) (has_failed : C → Bool) (old new : Connection H C)
    (streams : Streams) : Type 0 where
  pub mid : Connection H C
  pub served : Served (exchange rules ahead has_failed) old mid streams
  pub ended : EndsSession mid new

-- what was read is exchanged up to where the reader stopped or the clock failed, and exactly that was written
abbrev pub ExchangedSoFar : {H C : Type 0} → HouseRules H → (C → Option (List ℕ)) → (C → Bool) → Connection H C → Connection H C → Streams → Type 0
ExchangedSoFar rules ahead has_failed old new streams = ServedSoFar (exchange rules ahead has_failed) old new streams

-- a prefix of the exchange was written: of the first turns, and of the first events of one more
abbrev pub ExchangedInPart : {H C : Type 0} → HouseRules H → (C → Option (List ℕ)) → (C → Bool) → Connection H C → Streams → Type 0
ExchangedInPart rules ahead has_failed old streams = ServedInPart (exchange rules ahead has_failed) old streams
