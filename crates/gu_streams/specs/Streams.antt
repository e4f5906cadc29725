-- Input and output.
use Rattle.std.specs.Prelude.{ℕ, List, Option}
use Rattle.gu_streams.specs.Reads.{bytes_left, waits_left}
use Rattle.gu_streams.specs.declared.counted_reads.CountedReads.{CountedReads}

-- Input and output, before and after: the bytes that a reader has left, how often it may have nothing for now, and what a writer holds.
pub record Streams : Type 0 where
  pub input_old : Option (List ℕ)
  pub input_new : Option (List ℕ)
  pub waits_old : ℕ
  pub waits_new : ℕ
  pub output_old : Option (List ℕ)
  pub output_new : Option (List ℕ)

-- the input and output of these readers and writers
abbrev pub streams_of : {R W : Type 0} → (R → Option (List ℕ)) → (W → Option (List ℕ)) → CountedReads R → CountedReads R → W → W → Streams
streams_of remaining contents reads_old reads_new writer_old writer_new = record {
  input_old = bytes_left remaining reads_old;
  input_new = bytes_left remaining reads_new;
  waits_old = waits_left reads_old;
  waits_new = waits_left reads_new;
  output_old = contents writer_old;
  output_new = contents writer_new;
}
