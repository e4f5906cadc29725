-- Counted reads: the bytes and the reads that a reader has left, and whether one of its reads failed.
use Rattle.std.specs.Prelude.{◌≡◌, ◌≢◌, ◌<◌, ◌≤◌, ◌⊎◌, ℕ, ◌+◌, ◌-◌, ◌==◌, ◌||◌, Bool, true, not, List, [], Option, length, take}
use Rattle.std.specs.Io.Buffered.{reader_buffer, reader_inner, reader_remaining}
use Rattle.std.specs.Io.KnownBytes.{Consumes, IsAtEnd, Keeps}
use Rattle.gu_streams.specs.declared.counted_reads.CountedReads.{CountedReads}
use Rattle.gu_streams.specs.declared.source.Source.{Source}
use Rattle.gu_streams.specs.declared.source.Source.TheVariants.{Direct, Ahead}
use Rattle.gu_streams.specs.declared.turn.Turn.{Turn}
use Rattle.gu_streams.specs.declared.turn.Turn.TheVariants as turn

-- the reader under a source
abbrev pub reader_in : {R : Type 0} → Source R → R
reader_in (Direct reader) = reader
reader_in (Ahead reader) = reader_inner reader

-- the bytes that a source has left, if they are known: those read ahead, then those of its reader
abbrev pub left_in : {R : Type 0} → (R → Option (List ℕ)) → Source R → Option (List ℕ)
left_in remaining (Direct reader) = remaining reader
left_in remaining (Ahead reader) = reader_remaining remaining reader

-- some bytes were read ahead
abbrev pub HasAhead : {R : Type 0} → Source R → Type 0
HasAhead (Direct reader) = ⊥
HasAhead (Ahead reader) = reader_buffer reader ≢ []

-- the source of the reads
abbrev pub source_of : {R : Type 0} → CountedReads R → Source R
source_of reads = reads.source

-- the reader whose reads are counted
abbrev pub reader_under : {R : Type 0} → CountedReads R → R
reader_under reads = reader_in reads.source

-- the bytes left, if they are known
abbrev pub bytes_left : {R : Type 0} → (R → Option (List ℕ)) → CountedReads R → Option (List ℕ)
bytes_left remaining reads = left_in remaining reads.source

-- the number of reads left
abbrev pub reads_left : {R : Type 0} → CountedReads R → ℕ
reads_left reads = reads.left

-- no reads are left
abbrev pub is_spent : {R : Type 0} → CountedReads R → Bool
is_spent reads = reads_left reads == 0

-- the next turn brings bytes that were read ahead
abbrev pub IsAhead : {R : Type 0} → CountedReads R → Type 0
IsAhead reads = (0 < reads_left reads) × HasAhead reads.source

-- the reader returned an error from one of its reads
abbrev pub has_failed : {R : Type 0} → CountedReads R → Bool
has_failed reads = reads.failed

-- reading has stopped: the reader failed, or no reads are left
abbrev pub HasStopped : {R : Type 0} → CountedReads R → Type 0
HasStopped reads = (has_failed reads ≡ true) ⊎ (is_spent reads ≡ true)

-- how often the reader may still have nothing for now
abbrev pub waits_left : {R : Type 0} → CountedReads R → ℕ
waits_left reads = reads.waits

-- a turn brought this many bytes; 0, with a buffer that isn't empty, only at the end of the input
pub record Took {R : Type 0} (remaining : R → Option (List ℕ)) (old new : CountedReads R) (buffer : List ℕ) (count : ℕ) : Type 0 where
  pub within : count ≤ length buffer
  pub short : count ≤ 4096
  pub consumed : Consumes (bytes_left remaining old) (bytes_left remaining new) (take count buffer)
  pub end : count ≡ 0 → 0 < length buffer → IsAtEnd (bytes_left remaining new)
  pub counted : reads_left new + 1 ≡ reads_left old
  pub waits : waits_left new ≡ waits_left old
  pub failed : has_failed new ≡ has_failed old

-- a turn brought nothing for now: no read is counted, and none failed
pub record Waited {R : Type 0} (remaining : R → Option (List ℕ)) (old new : CountedReads R) : Type 0 where
  pub kept : Keeps (bytes_left remaining old) (bytes_left remaining new)
  pub counted : reads_left new ≡ reads_left old
  pub waits : waits_left new + 1 ≡ waits_left old
  pub failed : has_failed new ≡ has_failed old

-- a turn brought nothing more: no reads were left and nothing changed, or the read failed
pub record Stopped {R : Type 0} (remaining : R → Option (List ℕ)) (old new : CountedReads R) : Type 0 where
  pub kept : Keeps (bytes_left remaining old) (bytes_left remaining new)
  pub counted : reads_left new ≡ reads_left old - 1
  pub waits : waits_left new ≡ waits_left old
  pub failed : has_failed new ≡ (has_failed old || not (is_spent old))
  pub stopped : HasStopped new

-- the result of a turn
abbrev pub IsTurn : {R : Type 0} → (R → Option (List ℕ)) → CountedReads R → CountedReads R → List ℕ → Turn → Type 0
IsTurn remaining old new buffer (turn.Bytes count) = Took remaining old new buffer count
IsTurn remaining old new buffer turn.Nothing = Waited remaining old new
IsTurn remaining old new buffer turn.Stopped = Stopped remaining old new
