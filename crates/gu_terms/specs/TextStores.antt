-- Machinery: an arena of texts with spare capacity after them.
use Rattle.std.specs.Prelude.{ℕ, ◌-◌, ◌≤◌, List, length, take}
use Rattle.gu_terms.specs.declared.text_store.TextStore.TheInside.{Inside}

-- the bytes of the texts, and the number of spare bytes
pub record Stored : Type 0 where
  pub bytes : List ℕ
  pub spare : ℕ

-- the texts come first, and the spare bytes after them
abbrev pub stored : Inside → Stored
stored s = record { bytes = take s.len s.bytes.items; spare = length s.bytes.items - s.len }

abbrev pub IsStored : Inside → Type 0
IsStored s = s.len ≤ length s.bytes.items
