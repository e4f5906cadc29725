-- Machinery: what is left unanswered, as the loop's own functions take it in and answer it.
use Rattle.std.specs.Prelude.{◌≡◌, ◌<◌, ◌+◌, ◌⊎◌, ◌∷◌, true, ℕ, List, [], length, Option, None, Some}
use Rattle.std.specs.Io.KnownBytes.{IsAtEnd}
use Rattle.gu_streams.specs.Reads.{Stopped, Took, bytes_left}
use Rattle.gu_streams.specs.declared.counted_reads.CountedReads.{CountedReads}
use Rattle.gu_engine.specs.Running.{AnswersSome, Engine}
use Rattle.gu_engine.specs.Sends.{Gives, GivesPart}
use Rattle.gu_engine.specs.Turns.{HasToAnswer, IsLeft, Leaves, Reads}
use Rattle.gu_engine.specs.declared.backlog.Backlog.{Backlog}
use Rattle.gu_engine.specs.declared.backlog.Left.{Left}
use Rattle.gu_engine.specs.declared.backlog.Left.TheVariants as left
use Rattle.gu_engine.specs.declared.event.Event.{Event}
use Rattle.gu_engine.specs.declared.turned.Turned.{Turned}
use Rattle.gu_engine.specs.declared.turned.Turned.TheVariants as turned

-- this event was the first of those left
abbrev pub TakesEvent : {O : Type 0} → Backlog O → Event → Backlog O → Type 0
TakesEvent old event new = (kept : List ℕ) (events : List Event) → IsLeft old.left old.intake kept (Some events)
    → (others : List Event) × (events ≡ event ∷ others) × IsLeft new.left new.intake kept (Some others)

-- no event was left
abbrev pub TakesLast : {O : Type 0} → Backlog O → Backlog O → Type 0
TakesLast old new = (kept : List ℕ) (events : List Event) → IsLeft old.left old.intake kept (Some events)
    → (events ≡ []) × IsLeft new.left new.intake kept None

-- the most events left
abbrev pub steps_left : Left → List ℕ → ℕ
steps_left left.Nothing bytes = 0
steps_left left.Silence bytes = length bytes + 2
steps_left left.Frames bytes = length bytes + 1
steps_left left.Due bytes = 0

-- the events that a turn has to answer were left, or were read
pub record FindsEvents {R O : Type 0} (remaining : R → Option (List ℕ)) (reads_old reads_new : CountedReads R) (kept : List ℕ) (events : Option (List Event)) (new : Backlog O) : Type 0 where
  pub read : Option (List ℕ)
  pub reads : Reads remaining reads_old reads_new read
  pub brought : List Event
  pub next : List ℕ
  pub has : HasToAnswer kept events read brought next
  pub new_is : IsLeft new.left new.intake next (Some brought)

-- what a turn begins with, given its result unless it is cut
abbrev pub TakesIn : {R O : Type 0} → (R → Option (List ℕ)) → CountedReads R → CountedReads R → Backlog O → Backlog O → Turned → Type 0
TakesIn remaining reads_old reads_new old new turned.Again = (kept : List ℕ) (events : Option (List Event)) → IsLeft old.left old.intake kept events
    → FindsEvents remaining reads_old reads_new kept events new
TakesIn remaining reads_old reads_new old new turned.Waits = (kept : List ℕ) (events : Option (List Event)) → IsLeft old.left old.intake kept events
    → (finds : FindsEvents remaining reads_old reads_new kept events new) × (finds.read ≡ Some [])
TakesIn remaining reads_old reads_new old new turned.Full = ⊥
TakesIn remaining reads_old reads_new old new turned.Done = ⊥
TakesIn remaining reads_old reads_new old new turned.End = (new ≡ old) × (old.left ≡ left.Nothing)
    × (buffer : List ℕ) × Took remaining reads_old reads_new buffer 0 × IsAtEnd (bytes_left remaining reads_new)
TakesIn remaining reads_old reads_new old new turned.Stopped = (new ≡ old) × Stopped remaining reads_old reads_new

-- the first of the events left are answered, and now nothing is left, or the others, because too much is held or nothing is left to do
pub record AnswersLeft {S O : Type 0} (engine : Engine S) (now : ℕ) (old : S) (brought : List Event) (kept : List ℕ) (new : S) (backlog : Backlog O)
    (held : List ℕ) (output_old output_new : Option (List ℕ)) : Type 0 where
  pub text : List ℕ
  pub some : AnswersSome engine now old brought text new
  pub gave : Gives text held backlog.held.bytes.items output_old output_new
  pub left : Option (List Event)
  pub left_is : IsLeft backlog.left backlog.intake kept left
  pub leaves : Leaves engine new some.others left
  pub cut : (left ≡ None) ⊎ ((engine.is_done new ≡ true) ⊎ (65536 < length backlog.held.bytes.items))

-- whatever was left, the first of it is answered
abbrev pub AnswersWhatIsLeft : {S O : Type 0} → Engine S → ℕ → S → Backlog O → S → Backlog O → Option (List ℕ) → Option (List ℕ) → Type 0
AnswersWhatIsLeft engine now old before new after output_old output_new = (kept : List ℕ) (brought : List Event) → IsLeft before.left before.intake kept (Some brought)
    → AnswersLeft engine now old brought kept new after before.held.bytes.items output_old output_new

-- after a fault, a prefix of the answers to the first of it was sent
abbrev pub AnswersPartOfIt : {S O : Type 0} → Engine S → ℕ → S → Backlog O → Option (List ℕ) → Option (List ℕ) → Type 0
AnswersPartOfIt engine now old before output_old output_new = (kept : List ℕ) (brought : List Event) → IsLeft before.left before.intake kept (Some brought)
    → GivesPart engine now old brought before.held.bytes.items output_old output_new
