-- Packed receipts: their numbers beside their entries.
use Rattle.std.specs.Prelude.{ℕ, List, [], ◌∷◌}
use Rattle.gu_terms.specs.declared.entry.Entry.{Entry}
use Rattle.gu_terms.specs.declared.receipt.Receipt.{Receipt}

-- receipts made from their numbers and their entries
abbrev pub receipts_of : List ℕ → List Entry → List Receipt
receipts_of [] entries = []
receipts_of (number ∷ numbers) [] = []
receipts_of (number ∷ numbers) (entry ∷ entries) = record { number = number; entry = entry } ∷ receipts_of numbers entries
