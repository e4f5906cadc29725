-- Results of a turn: what was read, answered and sent, for each result.
use Rattle.std.specs.Prelude.{◌≡◌, ◌<◌, ◌≤◌, ◌⊎◌, ℕ, Bool, true, false, List, [], ◌++◌, length, Option, None, Some}
use Rattle.std.specs.Io.KnownBytes.{IsAtEnd}
use Rattle.gu_streams.specs.Reads.{Stopped, Took, bytes_left}
use Rattle.gu_streams.specs.Written.{WrotePart}
use Rattle.gu_streams.specs.declared.counted_reads.CountedReads.{CountedReads}
use Rattle.gu_engine.specs.Running.{Engine}
use Rattle.gu_engine.specs.Sends.{Gives}
use Rattle.gu_engine.specs.Turns.{AnswersTurn, AnswersTurnPart, Call, IsPause, Pause, Reads, ReadsNoMore}
use Rattle.gu_engine.specs.declared.backlog.Backlog.{Backlog}
use Rattle.gu_engine.specs.declared.turned.Turned.{Turned}
use Rattle.gu_engine.specs.declared.turned.Turned.TheVariants as turned

-- no further turn is due
abbrev pub is_last : Turned → Bool
is_last turned.Again = false
is_last turned.Waits = false
is_last turned.Full = false
is_last turned.Done = true
is_last turned.End = true
is_last turned.Stopped = true

-- A turn's work, before and after: the reader, what the engine keeps, and what was sent.
pub record Work (R O : Type 0) : Type 0 where
  pub reads_old : CountedReads R
  pub reads_new : CountedReads R
  pub kept_old : Backlog O
  pub kept_new : Backlog O
  pub output_old : Option (List ℕ)
  pub output_new : Option (List ℕ)

-- the work of a turn, given what its writer holds
abbrev pub work_of : {R W O : Type 0} → (W → Option (List ℕ)) → CountedReads R → CountedReads R → W → W → Backlog O → Backlog O → Work R O
work_of contents reads_old reads_new writer_old writer_new kept_old kept_new = record {
  reads_old = reads_old;
  reads_new = reads_new;
  kept_old = kept_old;
  kept_new = kept_new;
  output_old = contents writer_old;
  output_new = contents writer_new;
}

-- this text was given: the first of what was held and of the text was sent, and the rest is held
abbrev pub Gave : {R O : Type 0} → Work R O → List ℕ → Type 0
Gave work text = Gives text work.kept_old.held.bytes.items work.kept_new.held.bytes.items work.output_old work.output_new

module _ {S R O : Type 0} (engine : Engine S) (remaining : R → Option (List ℕ)) (old : Pause S) (state : S) (work : Work R O) where
  -- nothing was answered or read; the first of what was held was sent
  pub record Rests : Type 0 where
    pub same : IsPause state work.kept_new old
    pub unread : work.reads_new ≡ work.reads_old
    pub gave : Gave work []

  -- A turn was made: the first of what was held was sent, so that at most 65,536 bytes remained; then it read and answered.
  pub record Turns : Type 0 where
    pub held : List ℕ
    pub output : Option (List ℕ)
    pub went : Gives [] work.kept_old.held.bytes.items held work.output_old output
    pub room : length held ≤ 65536
    pub new : Pause S
    pub new_is : IsPause state work.kept_new new
    pub call : Call
    pub text : List ℕ
    pub read : Reads remaining work.reads_old work.reads_new call.read
    pub answered : AnswersTurn engine old call text new
    pub gave : Gives text held work.kept_new.held.bytes.items output work.output_new

  -- the input has ended
  pub record Ends : Type 0 where
    pub same : IsPause state work.kept_new old
    pub none_left : old.left ≡ None
    pub buffer : List ℕ
    pub took : Took remaining work.reads_old work.reads_new buffer 0
    pub at_end : IsAtEnd (bytes_left remaining work.reads_new)
    pub gave : Gave work []
    pub few : length work.kept_new.held.bytes.items ≤ 65536

  -- reading stopped, or a turn failed to begin after it read; nothing was answered
  pub record Stops : Type 0 where
    pub gave : Gave work []
    pub few : length work.kept_new.held.bytes.items ≤ 65536
    pub stopped : (IsPause state work.kept_new old × Stopped remaining work.reads_old work.reads_new)
        ⊎ ((read : Option (List ℕ)) × Reads remaining work.reads_old work.reads_new read × engine.stops old.state state)

  -- The result of a turn. If it is Full, more than 65,536 bytes are held; if it is Done, nothing is left to do.
  abbrev pub IsTurned : Turned → Type 0
  IsTurned turned.Again = (turns : Turns) × (turns.new.left ≡ None) × (engine.is_done state ≡ false)
  IsTurned turned.Waits = (turns : Turns) × (turns.new.left ≡ None) × (engine.is_done state ≡ false) × (turns.call.read ≡ Some [])
  IsTurned turned.Full = (65536 < length work.kept_new.held.bytes.items) × (Rests ⊎ Turns)
  IsTurned turned.Done = (engine.is_done state ≡ true) × (Rests ⊎ Turns)
  IsTurned turned.End = Ends
  IsTurned turned.Stopped = Stops

  -- after a fault, a prefix was sent of what was held and of the answers to the first events that the turn had to answer
  pub record TurnsInPart : Type 0 where
    pub read : Option (List ℕ)
    pub text : List ℕ
    pub reads : Reads remaining work.reads_old work.reads_new read ⊎ ((text ≡ []) × (read ≡ None) × ReadsNoMore remaining work.reads_old work.reads_new)
    pub part : (text ≡ []) ⊎ AnswersTurnPart engine old read text
    pub wrote : WrotePart (work.kept_old.held.bytes.items ++ text) work.output_old work.output_new

module _ {S R O : Type 0} (engine : Engine S) (remaining : R → Option (List ℕ)) (state_old state_new : S) (work : Work R O) where
  -- whatever the engine's state, this is the result of the turn
  abbrev pub TurnsTo : Turned → Type 0
  TurnsTo became = (old : Pause S) → IsPause state_old work.kept_old old → IsTurned engine remaining old state_new work became

  -- the same after a fault
  abbrev pub TurnsToPart : Type 0
  TurnsToPart = (old : Pause S) → IsPause state_old work.kept_old old → TurnsInPart engine remaining old state_new work
