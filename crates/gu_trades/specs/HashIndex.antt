-- Machinery: a hash index, which finds positions in a list by the stored hashes of its elements.
use Rattle.std.specs.Int.{IsPowerOfTwo}
use Rattle.std.specs.Prelude.{◌≡◌, ℕ, ◌-◌, ◌%◌, ◌<◌, ◌≤◌, ◌==◌, Bool, List, length, map, slice_index, slice_index_or, vec_capacity}
use Rattle.gu_trades.specs.declared.hash_index.Link.{Link}
use Rattle.gu_trades.specs.declared.hash_index.HashIndex.TheInside.{Inside}
use Rattle.gu_trades.specs.Numbered.{Numbered, last_before}

-- the stored hashes
abbrev pub numbers_of : List Link → List ℕ
numbers_of links = map (λ (link : Link). link.number) links

-- the position is in this row, given this number of rows
abbrev pub is_in_row : List ℕ → ℕ → ℕ → ℕ → Bool
is_in_row numbers rows row place = slice_index numbers place % rows == row

-- each position is linked to the previous one in its row
abbrev pub IsLinked : List Link → ℕ → Type 0
IsLinked links rows =
    (place : ℕ) (d : Link) → place < length links
    → (slice_index_or links place d).before
    ≡ last_before (is_in_row (numbers_of links) rows (slice_index (numbers_of links) place % rows)) place

-- each row ends at its last position
abbrev pub EndsRows : List Link → List ℕ → Type 0
EndsRows links last =
    (row : ℕ) → row < length last
    → slice_index last row ≡ last_before (is_in_row (numbers_of links) (length last) row) (length links)

-- the stored hashes, and how many more fit without an allocation
abbrev pub numbered : Inside → Numbered
numbered p = record { numbers = numbers_of p.links.items; spare = length p.last.items - length p.links.items }

pub record IsHashIndex (p : Inside) : Type 0 where
  pub few : length p.last.items ≤ 2147483648
  pub power : 0 < length p.last.items → IsPowerOfTwo (length p.last.items)
  pub within : length p.links.items ≤ length p.last.items
  pub room : length p.last.items ≤ vec_capacity p.links
  pub linked : IsLinked p.links.items (length p.last.items)
  pub ends : EndsRows p.links.items p.last.items
