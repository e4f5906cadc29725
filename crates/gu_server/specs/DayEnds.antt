-- The end of a day: the three lines that say what the book has, and what an audit of the receipts found.
use Rattle.std.specs.Prelude.{ℕ, ◌++◌, List, Option, Some, None, codes, length}
use Rattle.std.specs.Fmt.{decimal}
use Rattle.gu_terms.specs.Histories.{lots_swept}
use Rattle.gu_terms.specs.declared.entry.Entry.{Entry}
use Rattle.gu_terms.specs.declared.receipt.Receipt.{Receipt}
use Rattle.gu_desk.specs.Audits.{AreReceiptsOf, IsFirstFault}
use Rattle.gu_desk.specs.declared.error.AuditFault.{AuditFault}
use Rattle.gu_desk.specs.declared.error.AuditFault.TheVariants.{Memory, Missing, Differs, Twice, Unclaimed}

-- what an audit found: each entry has its receipt, once, and there are no others; or this first fault. That memory ran out is no
-- finding.
abbrev pub Finds : List Entry → List Receipt → Option AuditFault → Type 0
Finds history receipts None = AreReceiptsOf history receipts
Finds history receipts (Some Memory) = ⊥
Finds history receipts (Some fault) = IsFirstFault history receipts fault

-- the words of what an audit found: a fault has its number and its name, and names an entry by its number
abbrev pub audit_text : Option AuditFault → List ℕ
audit_text None = codes "OK"
audit_text (Some Memory) = codes "0 Memory"
audit_text (Some (Missing number)) = codes "1 Missing " ++ decimal number
audit_text (Some (Differs number)) = codes "2 Differs " ++ decimal number
audit_text (Some (Twice number)) = codes "3 Twice " ++ decimal number
audit_text (Some (Unclaimed number)) = codes "4 Unclaimed " ++ decimal number

-- the lines of a history with these receipts: how many entries it has, how many lots its sweeps took, and what an audit found
abbrev pub day_text : List Entry → Option AuditFault → List ℕ
day_text history found =
    codes "ENTRIES " ++ (decimal (length history) ++ (codes "\nSWEPT " ++ (decimal (lots_swept history) ++ (codes "\nAUDIT " ++ (audit_text found ++ codes "\n")))))
