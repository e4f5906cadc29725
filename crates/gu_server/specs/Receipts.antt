-- Receipts of a day: what its threads hand back of the entries that they made.
use Rattle.std.specs.Prelude.{◌≡◌, ℕ, ◌+◌, ◌++◌, All, List, length, sum_by}
use mathlib.Core.List.{IsPrefix}
use Rattle.gu_terms.specs.declared.entry.Entry.{Entry}
use Rattle.gu_terms.specs.declared.receipt.Receipt.{Receipt}
use Rattle.gu_desk.specs.Seats.{SeatState}
use Rattle.gu_houses.specs.Receipts.{AreOf}

-- each of these seats has seen a beginning of this history
abbrev pub HaveSeen : List SeatState → List Entry → Type 0
HaveSeen seats history = All (λ (seat : SeatState). IsPrefix seat.front history) seats

-- Receipts are those that there were, and after them as many as entries were made from these seats. Each of these is of an entry, after the
-- opening, of every history of which all seats have seen beginnings.
pub record EndsWith (opening : ℕ) (seats : List SeatState) (before receipts : List Receipt) : Type 0 where
  pub made : List Receipt
  pub receipts_are : receipts ≡ before ++ made
  pub count : length made ≡ sum_by (λ (seat : SeatState). seat.entries) seats
  pub each : (history : List Entry) → HaveSeen seats history → AreOf history opening made

-- The history of a day begins with that of its opening. The receipts at the end are those that there were, and after them as many as entries
-- were made since, each of one of these entries.
pub record AddsReceipts (opening : List Entry) (before : List Receipt) (history : List Entry) (receipts : List Receipt) : Type 0 where
  pub begins : IsPrefix opening history
  pub made : List Receipt
  pub receipts_are : receipts ≡ before ++ made
  pub count : length history ≡ length opening + length made
  pub each : AreOf history (length opening) made
