-- Audits: comparing receipts with a history.
use Rattle.std.specs.Prelude.{◌≡◌, ℕ, ◌<◌, ◌≤◌, ◌==◌, Bool, true, false, List, length, take, Some, slice_get}
use Rattle.std.specs.List.{list_any}
use Rattle.gu_terms.specs.Histories.{entry_at}
use Rattle.gu_terms.specs.declared.entry.Entry.{Entry}
use Rattle.gu_terms.specs.declared.receipt.Receipt.{Receipt}
use Rattle.gu_desk.specs.declared.error.AuditFault.{AuditFault}
use Rattle.gu_desk.specs.declared.error.AuditFault.TheVariants.{Memory, Missing, Differs, Twice, Unclaimed}

-- there is an entry with this number
abbrev pub IsNumber : List Entry → ℕ → Type 0
IsNumber history number = (1 ≤ number) × (number ≤ length history)

-- the receipt is for the entry that has its number
abbrev pub IsReceiptOf : List Entry → Receipt → Type 0
IsReceiptOf history receipt = entry_at history receipt.number ≡ Some receipt.entry

-- one of the receipts has this number
abbrev pub has_receipt : List Receipt → ℕ → Bool
has_receipt receipts number = list_any (λ (r : Receipt). r.number == number) receipts

-- each of the first `count` receipts is for its entry, and no two of them have the same number
abbrev pub AreSound : List Entry → List Receipt → ℕ → Type 0
AreSound history receipts count =
    (place : ℕ) (receipt : Receipt)
    → place < count
    → slice_get receipts place ≡ Some receipt
    → IsReceiptOf history receipt × (has_receipt (take place receipts) receipt.number ≡ false)

-- each entry has exactly one receipt, and there are no other receipts
pub record AreReceiptsOf (history : List Entry) (receipts : List Receipt) : Type 0 where
  pub sound : AreSound history receipts (length receipts)
  pub all : (number : ℕ) → IsNumber history number → has_receipt receipts number ≡ true

-- the fault of one receipt: no entry has its number, the entry with its number is a different one, or an earlier receipt has its number too
abbrev pub IsFaultOf : List Entry → Bool → Receipt → AuditFault → Type 0
IsFaultOf history has_earlier receipt (Missing number) = (receipt.number ≡ number) × ¬ IsNumber history number
IsFaultOf history has_earlier receipt (Differs number) =
    (receipt.number ≡ number) × IsNumber history number × ¬ IsReceiptOf history receipt
IsFaultOf history has_earlier receipt (Twice number) = (receipt.number ≡ number) × IsReceiptOf history receipt × (has_earlier ≡ true)
IsFaultOf history has_earlier receipt fault = ⊥

-- the receipt at an index has this fault, and all before it are sound
pub record IsFaultAt (history : List Entry) (receipts : List Receipt) (fault : AuditFault) (place : ℕ) (receipt : Receipt) : Type 0 where
  pub sound : AreSound history receipts place
  pub here : slice_get receipts place ≡ Some receipt
  pub is : IsFaultOf history (has_receipt (take place receipts) receipt.number) receipt fault

-- all receipts are sound, and this is the lowest number of an entry without one
pub record IsLeastWithout (history : List Entry) (receipts : List Receipt) (number : ℕ) : Type 0 where
  pub sound : AreSound history receipts (length receipts)
  pub entry : IsNumber history number
  pub none : has_receipt receipts number ≡ false
  pub least : (lesser : ℕ) → 1 ≤ lesser → lesser < number → has_receipt receipts lesser ≡ true

-- the first fault: that of the first receipt with one, or, if none has one, the lowest number without a receipt. (Memory means nothing
-- about the receipts.)
abbrev pub IsFirstFault : List Entry → List Receipt → AuditFault → Type 0
IsFirstFault history receipts Memory = Unit {0}
IsFirstFault history receipts (Unclaimed number) = IsLeastWithout history receipts number
IsFirstFault history receipts fault = (place : ℕ) × (receipt : Receipt) × IsFaultAt history receipts fault place receipt
