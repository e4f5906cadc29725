-- Machinery: marks in an audit: which entries have a receipt among those looked at so far.
use Rattle.std.specs.Prelude.{◌≡◌, ℕ, ◌-◌, Bool, List, Some, length, slice_get}
use Rattle.gu_terms.specs.declared.entry.Entry.{Entry}
use Rattle.gu_terms.specs.declared.receipt.Receipt.{Receipt}
use Rattle.gu_desk.specs.Audits.{has_receipt, AreSound, IsNumber}

-- these receipts are sound, and the marks say for each entry whether one of them is for it
pub record AreMarks (history : List Entry) (seen : List Receipt) (marks : List Bool) : Type 0 where
  pub sized : length marks ≡ length history
  pub sound : AreSound history seen (length seen)
  pub marked : (number : ℕ) → IsNumber history number → slice_get marks (number - 1) ≡ Some (has_receipt seen number)
