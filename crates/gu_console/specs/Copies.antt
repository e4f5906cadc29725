-- Machinery: entries that are copied while the lock is held, and their lines, which are made after it.
use Rattle.std.specs.Prelude.{◌≡◌, ℕ, ◌+◌, ◌-◌, ◌<◌, ◌≤◌, ◌⊎◌, ◌++◌, List, Option, drop, length, min, take}
use Rattle.gu_terms.specs.declared.day.Day.{Day}
use Rattle.gu_terms.specs.declared.entry.Entry.{Entry}
use Rattle.gu_console.specs.Shown.{day_after, lines_after}

-- copies of a history's entries, after this number of others: all of them, or 256
pub record AreCopies (history : List Entry) (from : ℕ) (old : List Entry) (end : ℕ) (new : List Entry) : Type 0 where
  pub end_is : end ≡ min (length history) (from + 256)
  pub copied : new ≡ old ++ take (end - from) (drop from history)

-- the lines of the first entries, so many of them, where this day is open before them: of all, or with as many bytes as a stretch has at most
pub record AreLinesOf (today : Option Day) (entries : List Entry) (text : List ℕ) (count : ℕ) (later : Option Day) : Type 0 where
  pub within : count ≤ length entries
  pub text_is : text ≡ lines_after today (take count entries)
  pub later_is : later ≡ day_after today (take count entries)
  pub some : 0 < length entries → 0 < count
  pub short : (length text ≤ 65536) ⊎ (count ≡ 1)
  pub whole : (count ≡ length entries) ⊎ ((count < length entries) × (65536 < length (lines_after today (take (count + 1) entries))))
