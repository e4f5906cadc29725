-- Machinery: what a scan of a stream finds next. No other crate names this file.
use Rattle.std.specs.Prelude.{ℕ, ◌-◌, ◌≤◌, List, length, take, drop}
use Rattle.gu_fix.specs.WholeMessage.{IsWhole}
use Rattle.gu_fix.specs.Stream.{GarbledBefore, IsOpen}
use Rattle.gu_fix.specs.declared.scan.Next.{Next}
use Rattle.gu_fix.specs.declared.scan.Next.TheVariants as next

-- every position of the stream from one up to, but not including, another is garbled
pub record IsGarbledTo (stream : List ℕ) (from end : ℕ) : Type 0 where
  pub low : from ≤ end
  pub high : end ≤ length stream
  pub between : GarbledBefore (drop from stream) (end - from)

-- the bytes of the stream from one position up to another are a whole message
pub record IsMessageAt (stream : List ℕ) (start end : ℕ) : Type 0 where
  pub low : start ≤ end
  pub high : end ≤ length stream
  pub is_whole : IsWhole (take (end - start) (drop start stream))

-- what comes next from a position of the stream on: garbled positions, and then a whole message or an open position
abbrev pub ComesNext : Next → List ℕ → ℕ → Type 0
ComesNext (next.Whole start end) stream from = IsGarbledTo stream from start × IsMessageAt stream start end
ComesNext (next.Open place) stream from = IsGarbledTo stream from place × IsOpen (drop place stream)
