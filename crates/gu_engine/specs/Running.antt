-- Engines: what a reader brings is answered turn by turn, and the answers are written.
use Rattle.std.specs.Prelude.{⊤, ◌≡◌, ◌<◌, ◌≤◌, ◌⊎◌, ◌+◌, ℕ, Bool, true, false, not, List, [], ◌∷◌, ◌++◌, filter, length, map, Option, None, Some}
use Rattle.std.specs.Io.KnownBytes.{Consumes, Appends, IsAtEnd}
use Rattle.std.specs.List.{concat}
use Rattle.std.specs.Option.{option_to_list}
use Rattle.gu_fix.specs.Stream.{TakesPiece}
use Rattle.gu_streams.specs.Streams.{Streams}
use Rattle.gu_streams.specs.Written.{WrotePart}
use Rattle.gu_engine.specs.declared.event.Event.{Event}
use Rattle.gu_engine.specs.declared.event.Event.TheVariants.{Frame, Silence, More, Over}

-- Things are answered in order. `answers` relates a state, a thing, the text that answers it and the state afterwards.
abbrev pub AnswersEach : {S X : Type 0} → (S → X → List ℕ → S → Type 0) → S → List X → List ℕ → S → Type 0
AnswersEach answers old [] text new = (text ≡ []) × (new ≡ old)
AnswersEach {S} answers old (one ∷ others) text new =
    (first : List ℕ) × (rest : List ℕ) × (next : S)
    × answers old one first next × (text ≡ first ++ rest) × AnswersEach answers next others rest new

-- An engine, by its states: the moment at which a turn begins, the answer to an event then, how a turn fails to begin, whether something is
-- due, and whether nothing is left to do.
pub record Engine (S : Type 0) : Type 1 where
  pub begins : S → ℕ → S → Type 0
  pub answers : ℕ → S → Event → List ℕ → S → Type 0
  pub stops : S → S → Type 0
  pub is_due : S → Bool
  pub is_done : S → Bool

-- an event that requests the next part of what is due
abbrev pub is_more : Event → Bool
is_more (Frame frame) = false
is_more Silence = false
is_more More = true
is_more Over = false

-- the other events, which the turn itself brings
abbrev pub brought_in : List Event → List Event
brought_in events = filter (λ (event : Event). not (is_more event)) events

-- An event is answered, if something is left to do. What is due comes before anything else.
pub record Answers {S : Type 0} (engine : Engine S) (now : ℕ) (old : S) (event : Event) (text : List ℕ) (new : S) : Type 0 where
  pub goes_on : engine.is_done old ≡ false
  pub due_first : engine.is_due old ≡ is_more event
  pub answered : engine.answers now old event text new

-- the first of the events that a turn brought are answered, with parts of what is due
pub record AnswersSome {S : Type 0} (engine : Engine S) (now : ℕ) (old : S) (brought : List Event) (text : List ℕ) (new : S) : Type 0 where
  pub events : List Event
  pub others : List Event
  pub split : brought ≡ brought_in events ++ others
  pub answered : AnswersEach (Answers engine now) old events text new

-- all of them are answered and nothing more is due; or nothing is left to do
pub record AnswersAll {S : Type 0} (engine : Engine S) (now : ℕ) (old : S) (brought : List Event) (text : List ℕ) (new : S) : Type 0 where
  pub some : AnswersSome engine now old brought text new
  pub all : ((some.others ≡ []) × (engine.is_due new ≡ false)) ⊎ (engine.is_done new ≡ true)

-- the bytes that one turn gave, which are none if the reader had nothing for now, and the moment of that turn
pub record Piece : Type 0 where
  pub bytes : List ℕ
  pub moment : ℕ

-- the bytes of each turn
abbrev pub turns_of : List Piece → List (List ℕ)
turns_of pieces = map (λ (piece : Piece). piece.bytes) pieces

-- an engine between two turns: its state, and the bytes that make no frame yet
pub record Between (S : Type 0) : Type 0 where
  pub state : S
  pub kept : List ℕ

-- The events that a turn brings: the frames that are whole with the earlier bytes; or Silence, if it has no bytes. Then the turn is over.
abbrev pub Brings : List ℕ → List ℕ → List Event → List ℕ → Type 0
Brings kept [] brought next = (brought ≡ Silence ∷ Over ∷ []) × (next ≡ kept)
Brings kept (byte ∷ bytes) brought next = (frames : List (List ℕ)) × TakesPiece kept (byte ∷ bytes) frames next × (brought ≡ map Frame frames ++ Over ∷ [])

-- one turn, if something is left to do: at most 4,096 bytes
pub record AnswersPiece {S : Type 0} (engine : Engine S) (old : Between S) (piece : Piece) (text : List ℕ) (new : Between S) : Type 0 where
  pub goes_on : engine.is_done old.state ≡ false
  pub most : length piece.bytes ≤ 4096
  pub begun : S
  pub begins : engine.begins old.state piece.moment begun
  pub brought : List Event
  pub brings : Brings old.kept piece.bytes brought new.kept
  pub answered : AnswersAll engine piece.moment begun brought text new.state

-- turns one after another, starting with the first
abbrev pub AnswersPieces : {S : Type 0} → Engine S → S → List Piece → List ℕ → Between S → Type 0
AnswersPieces engine old pieces text new = AnswersEach (AnswersPiece engine) (record { state = old; kept = [] }) pieces text new

-- a turn that gave nothing counts as one wait
abbrev pub wait_of : List ℕ → ℕ
wait_of [] = 1
wait_of (byte ∷ bytes) = 0

-- the number of these turns that gave nothing
abbrev pub waits_in : List (List ℕ) → ℕ
waits_in [] = 0
waits_in (turn ∷ turns) = wait_of turn + waits_in turns

-- what was read: the bytes of these turns; those without bytes are the waits
pub record HasRead (streams : Streams) (turns : List (List ℕ)) : Type 0 where
  pub consumed : Consumes streams.input_old streams.input_new (concat turns)
  pub waited : waits_in turns + streams.waits_new ≡ streams.waits_old

-- everything was read and answered, up to the end of the input or until nothing is left to do, and exactly the answers were written
pub record Served {S : Type 0} (engine : Engine S) (old new : S) (streams : Streams) : Type 0 where
  pub pieces : List Piece
  pub text : List ℕ
  pub last : Between S
  pub read : HasRead streams (turns_of pieces)
  pub answered : AnswersPieces engine old pieces text last
  pub new_is : new ≡ last.state
  pub ends : IsAtEnd streams.input_new ⊎ (engine.is_done new ≡ true)
  pub appended : Appends streams.output_old streams.output_new text

-- a turn failed to begin, and this is the state after it
abbrev pub FailsToBegin : {S : Type 0} → Engine S → S → Type 0
FailsToBegin {S} engine new = (old : S) × engine.stops old new

-- reading stops: there was no further turn, or one that failed to begin
abbrev pub StopsAt : {S : Type 0} → Engine S → S → Option (List ℕ) → S → Type 0
StopsAt engine old further new = ((further ≡ None) × (new ≡ old)) ⊎ engine.stops old new

-- what was read is answered up to where reading stopped, and exactly the answers were written
pub record ServedSoFar {S : Type 0} (engine : Engine S) (old new : S) (streams : Streams) : Type 0 where
  pub pieces : List Piece
  pub text : List ℕ
  pub last : Between S
  pub further : Option (List ℕ)
  pub read : HasRead streams (turns_of pieces ++ option_to_list further)
  pub answered : AnswersPieces engine old pieces text last
  pub stopped : StopsAt engine last.state further new
  pub appended : Appends streams.output_old streams.output_new text

-- the first events of one more turn are answered
pub record AnswersPart {S : Type 0} (engine : Engine S) (old : Between S) (further : Option (List ℕ)) (text : List ℕ) : Type 0 where
  pub bytes : List ℕ
  pub further_is : further ≡ Some bytes
  pub now : ℕ
  pub begun : S
  pub begins : engine.begins old.state now begun
  pub brought : List Event
  pub kept : List ℕ
  pub brings : Brings old.kept bytes brought kept
  pub new : S
  pub answered : AnswersSome engine now begun brought text new

-- What was written is a prefix of the answers to the first turns, and to the first events of one more.
pub record ServedInPart {S : Type 0} (engine : Engine S) (old : S) (streams : Streams) : Type 0 where
  pub pieces : List Piece
  pub text : List ℕ
  pub last : Between S
  pub further : Option (List ℕ)
  pub more : List ℕ
  pub read : HasRead streams (turns_of pieces ++ option_to_list further)
  pub answered : AnswersPieces engine old pieces text last
  pub part : (more ≡ []) ⊎ AnswersPart engine last further more
  pub wrote : WrotePart (text ++ more) streams.output_old streams.output_new

-- each of these turns gave bytes
abbrev pub HaveBytes : List Piece → Type 0
HaveBytes [] = ⊤
HaveBytes (piece ∷ pieces) = (0 < length piece.bytes) × HaveBytes pieces

-- if no turn was a wait, each gave bytes, so that the exchange consists of reads alone
abbrev pub AreReads : Type 0
AreReads = (pieces : List Piece) → waits_in (turns_of pieces) ≡ 0 → HaveBytes pieces

-- turns followed by more turns are answered as all of them one after another
abbrev pub TurnsGoOn : {S : Type 0} → Engine S → Type 0
TurnsGoOn {S} engine = (old mid new : Between S) (pieces more : List Piece) (text further : List ℕ) → AnswersEach (AnswersPiece engine) old pieces text mid
    → AnswersEach (AnswersPiece engine) mid more further new → AnswersEach (AnswersPiece engine) old (pieces ++ more) (text ++ further) new
