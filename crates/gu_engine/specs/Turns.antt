-- Turns that may be cut: each answers the first events that it has to answer, and a later one continues with the others.
use Rattle.std.specs.Prelude.{◌≡◌, ◌≤◌, ◌⊎◌, ℕ, false, List, [], ◌∷◌, ◌++◌, length, map, take, Option, None, Some}
use Rattle.std.specs.List.{flat_map}
use Rattle.gu_fix.specs.Stream.{TakesPiece}
use Rattle.gu_streams.specs.Reads.{Stopped, Took, Waited}
use Rattle.gu_streams.specs.declared.counted_reads.CountedReads.{CountedReads}
use Rattle.gu_engine.specs.Running.{Answers, AnswersEach, AnswersPiece, AnswersSome, Between, Brings, Engine, brought_in}
use Rattle.gu_engine.specs.declared.backlog.Backlog.{Backlog}
use Rattle.gu_engine.specs.declared.backlog.Left.{Left}
use Rattle.gu_engine.specs.declared.backlog.Left.TheVariants as left
use Rattle.gu_engine.specs.declared.event.Event.{Event}
use Rattle.gu_engine.specs.declared.event.Event.TheVariants.{Frame, Silence, Over}

-- An engine between two turns: its state, and the bytes that make no frame yet. If the last turn was cut, also the events that it left
-- unanswered: the frames, and the end of the turn; or none, if only parts of what is due may be left.
pub record Pause (S : Type 0) : Type 0 where
  pub state : S
  pub kept : List ℕ
  pub left : Option (List Event)

-- One turn: what it read, if it read at all (no bytes if the reader had nothing for now); and its moment.
pub record Call : Type 0 where
  pub read : Option (List ℕ)
  pub moment : ℕ

-- The events that a turn has to answer: those a cut turn left, and then it reads nothing; or those its bytes bring, at most 4,096 bytes.
abbrev pub HasToAnswer : List ℕ → Option (List Event) → Option (List ℕ) → List Event → List ℕ → Type 0
HasToAnswer kept left None brought next = (left ≡ Some brought) × (next ≡ kept)
HasToAnswer kept left (Some bytes) brought next = (left ≡ None) × (length bytes ≤ 4096) × Brings kept bytes brought next

-- the events that a turn leaves: none, if all are answered and nothing more is due; or the others, if it is cut
abbrev pub Leaves : {S : Type 0} → Engine S → S → List Event → Option (List Event) → Type 0
Leaves engine state others None = (others ≡ []) × (engine.is_due state ≡ false)
Leaves engine state others (Some events) = events ≡ others

-- one turn, if something is left to do: the first events that it has to answer are answered at its moment, with parts of what is due
pub record AnswersTurn {S : Type 0} (engine : Engine S) (old : Pause S) (call : Call) (text : List ℕ) (new : Pause S) : Type 0 where
  pub goes_on : engine.is_done old.state ≡ false
  pub begun : S
  pub begins : engine.begins old.state call.moment begun
  pub brought : List Event
  pub has : HasToAnswer old.kept old.left call.read brought new.kept
  pub answered : AnswersSome engine call.moment begun brought text new.state
  pub leaves : Leaves engine new.state answered.others new.left

-- the first events that a turn has to answer are answered
pub record AnswersTurnPart {S : Type 0} (engine : Engine S) (old : Pause S) (read : Option (List ℕ)) (text : List ℕ) : Type 0 where
  pub now : ℕ
  pub begun : S
  pub begins : engine.begins old.state now begun
  pub brought : List Event
  pub kept : List ℕ
  pub has : HasToAnswer old.kept old.left read brought kept
  pub new : S
  pub answered : AnswersSome engine now begun brought text new

-- The events that a turn left, as the engine stores them: whole frames are among the bytes not yet taken.
abbrev pub IsLeft : Left → List ℕ → List ℕ → Option (List Event) → Type 0
IsLeft left.Nothing bytes kept events = (events ≡ None) × TakesPiece [] bytes [] kept
IsLeft left.Silence bytes kept events = (events ≡ Some (Silence ∷ Over ∷ [])) × TakesPiece [] bytes [] kept
IsLeft left.Frames bytes kept events = (frames : List (List ℕ)) × (events ≡ Some (map Frame frames ++ Over ∷ [])) × TakesPiece [] bytes frames kept
IsLeft left.Due bytes kept events = (events ≡ Some []) × TakesPiece [] bytes [] kept

-- an engine between two turns, made from its state and the rest that it keeps
pub record IsPause {S O : Type 0} (state : S) (backlog : Backlog O) (pause : Pause S) : Type 0 where
  pub state_is : pause.state ≡ state
  pub left_is : IsLeft backlog.left backlog.intake pause.kept pause.left

-- what a turn read: nothing, and the reader is unchanged; nothing for now; or bytes, with one read
abbrev pub Reads : {R : Type 0} → (R → Option (List ℕ)) → CountedReads R → CountedReads R → Option (List ℕ) → Type 0
Reads remaining old new None = new ≡ old
Reads remaining old new (Some []) = Waited remaining old new
Reads remaining old new (Some (byte ∷ bytes)) = (buffer : List ℕ) × (count : ℕ) × Took remaining old new buffer count × (byte ∷ bytes ≡ take count buffer)

-- reading ended: it stopped, or the input ended
abbrev pub ReadsNoMore : {R : Type 0} → (R → Option (List ℕ)) → CountedReads R → CountedReads R → Type 0
ReadsNoMore remaining old new = Stopped remaining old new ⊎ ((buffer : List ℕ) × Took remaining old new buffer 0)

-- the engine keeps nothing before its first turn
pub record IsEmpty {O : Type 0} (backlog : Backlog O) : Type 0 where
  pub no_bytes : backlog.intake ≡ []
  pub none_left : backlog.left ≡ left.Nothing
  pub none_held : backlog.held.bytes.items ≡ []

-- turns that read nothing, at these moments
abbrev pub later_calls : List ℕ → List Call
later_calls moments = map (λ (moment : ℕ). record { read = None; moment = moment }) moments

-- the events that one of several turns answers, and its moment
pub record Share : Type 0 where
  pub events : List Event
  pub moment : ℕ

-- a share is answered, with parts of what is due
pub record AnswersShare {S : Type 0} (engine : Engine S) (old : S) (share : Share) (text : List ℕ) (new : S) : Type 0 where
  pub begun : S
  pub begins : engine.begins old share.moment begun
  pub events : List Event
  pub events_are : brought_in events ≡ share.events
  pub answered : AnswersEach (Answers engine share.moment) begun events text new

-- A piece is answered in shares, by turns at these moments: each event that it brings once and in order, however they are shared out.
pub record AnswersInShares {S : Type 0} (engine : Engine S) (old : Between S) (bytes : List ℕ) (moments text : List ℕ) (new : Between S) : Type 0 where
  pub brought : List Event
  pub brings : Brings old.kept bytes brought new.kept
  pub shares : List Share
  pub shares_are : flat_map (λ (share : Share). share.events) shares ≡ brought
  pub at_moments : map (λ (share : Share). share.moment) shares ≡ moments
  pub answered : AnswersEach (AnswersShare engine) old.state shares text new.state

-- a paused engine without the events left
abbrev pub between_of : {S : Type 0} → Pause S → Between S
between_of pause = record { state = pause.state; kept = pause.kept }

-- a turn that reads, with those that continue until one leaves nothing, answers its piece in shares
abbrev pub CutTurnsGoOn : {S : Type 0} → Engine S → Type 0
CutTurnsGoOn {S} engine = (old new : Pause S) (bytes : List ℕ) (moment : ℕ) (moments text : List ℕ)
    → AnswersEach (AnswersTurn engine) old (record { read = Some bytes; moment = moment } ∷ later_calls moments) text new → new.left ≡ None
    → AnswersInShares engine (between_of old) bytes (moment ∷ moments) text (between_of new)

-- a turn that reads and leaves nothing answers its piece at once
abbrev pub UncutTurnsArePieces : {S : Type 0} → Engine S → Type 0
UncutTurnsArePieces {S} engine = (old new : Pause S) (bytes : List ℕ) (moment : ℕ) (text : List ℕ)
    → AnswersTurn engine old (record { read = Some bytes; moment = moment }) text new → new.left ≡ None
    → AnswersPiece engine (between_of old) (record { bytes = bytes; moment = moment }) text (between_of new)
