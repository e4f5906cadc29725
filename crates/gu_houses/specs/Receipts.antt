-- Receipts kept for the entries made from a seat.
use Rattle.std.specs.Prelude.{◌≡◌, ℕ, ◌<◌, All, List, length}
use Rattle.gu_terms.specs.declared.entry.Entry.{Entry}
use Rattle.gu_terms.specs.declared.receipt.Receipt.{Receipt}
use Rattle.gu_desk.specs.Audits.{IsReceiptOf}
use Rattle.gu_desk.specs.Seats.{SeatState}

-- receipts are for entries of this history, each after the first `opening`
abbrev pub AreOf : List Entry → ℕ → List Receipt → Type 0
AreOf history opening receipts = All (λ (receipt : Receipt). IsReceiptOf history receipt × (opening < receipt.number)) receipts

-- a seat has a receipt for each entry made from it, and each is for an entry in the history that it has seen, after the desk's opening
pub record HasReceipts (opening : ℕ) (seat : SeatState) (receipts : List Receipt) : Type 0 where
  pub count : length receipts ≡ seat.entries
  pub each : AreOf seat.front opening receipts
