-- Turns of the engine, one after another, over a reader that each turn borrows. Their answers are held.
use Rattle.std.specs.Prelude.{◌≡◌, ◌++◌, ℕ, zero, suc, false, List, [], Option, Some}
use Rattle.gu_engine.specs.Running.{Engine}
use Rattle.gu_engine.specs.Turned.{TurnsTo}
use Rattle.gu_engine.specs.declared.backlog.Backlog.{Backlog}
use Rattle.gu_engine.specs.declared.turned.Turned.{Turned}
use Rattle.gu_engine.specs.declared.turned.Turned.TheVariants as turned
use Rattle.gu_streams.specs.Reads.{has_failed, reader_under, reads_left, source_of}
use Rattle.gu_streams.specs.declared.counted_reads.CountedReads.{CountedReads}
use Rattle.gu_streams.specs.declared.source.Source.TheVariants.{Direct}

-- The state of a connection between two turns: what answers, what it reads, and what was left.
pub record Spot (S R O : Type 0) : Type 0 where
  pub state : S
  pub reader : R
  pub kept : Backlog O

-- a spot
abbrev pub spot : {S R O : Type 0} → S → R → Backlog O → Spot S R O
spot state reader kept = record { state = state; reader = reader; kept = kept }

-- reads of a reader are counted anew
pub record CountsAnew {R : Type 0} (reader : R) (reads : CountedReads R) : Type 0 where
  pub source : source_of reads ≡ Direct reader
  pub left : reads_left reads ≡ 1000000
  pub fresh : has_failed reads ≡ false

-- nothing is sent: what was held is still held, with the new answers after it
pub record HoldsOn {O : Type 0} (old new : Backlog O) : Type 0 where
  pub text : List ℕ
  pub held : new.held.bytes.items ≡ old.held.bytes.items ++ text

module _ {S R O : Type 0} (engine : Engine S) (remaining : R → Option (List ℕ)) where
  -- one turn of the engine, and what became of it; none of its answers is sent
  pub record TurnsOnce (old : Spot S R O) (became : Turned) (new : Spot S R O) : Type 0 where
    pub before : CountedReads R
    pub after : CountedReads R
    pub begins : CountsAnew old.reader before
    pub ends : reader_under after ≡ new.reader
    pub turns : TurnsTo engine remaining old.state new.state
        (record { reads_old = before; reads_new = after; kept_old = old.kept; kept_new = new.kept; output_old = Some []; output_new = Some [] }) became
    pub holds : HoldsOn old.kept new.kept

  -- further turns of the engine, this many before the last, each of which may be followed by another; and what became of the last
  abbrev pub TurnsOn : ℕ → Spot S R O → Turned → Spot S R O → Type 0
  TurnsOn zero old became new = TurnsOnce old became new
  TurnsOn (suc more) old became new = (mid : Spot S R O) × TurnsOn more old turned.Again mid × TurnsOnce mid became new
