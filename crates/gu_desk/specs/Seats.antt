-- Seats, as contracts see them.
use Rattle.std.specs.Prelude.{◌≡◌, ℕ, List}
use Rattle.gu_terms.specs.declared.entry.Entry.{Entry}

-- the number of entries made from a seat, the number of lots swept from it, and its front: the prefix of the desk's one history that it has
-- seen
pub record SeatState : Type 0 where
  pub entries : ℕ
  pub swept : ℕ
  pub front : List Entry

-- nothing was entered yet from a seat, and it has seen exactly the history that the desk was opened with
abbrev pub IsNew : List Entry → SeatState → Type 0
IsNew opening seat = (seat.entries ≡ 0) × (seat.swept ≡ 0) × (seat.front ≡ opening)
