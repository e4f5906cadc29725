-- Kept receipts: the last as it is, and the earlier ones packed.
use Rattle.std.specs.Prelude.{◌≡◌, List, ◌++◌, None}
use Rattle.std.specs.Option.{option_to_list}
use Rattle.gu_terms.specs.declared.receipt.Receipt.{Receipt}
use Rattle.gu_desk.specs.declared.kept_receipts.KeptReceipts.{KeptReceipts}

-- the kept receipts, in order
abbrev pub receipts_in : KeptReceipts → List Receipt
receipts_in kept = kept.earlier ++ option_to_list kept.last

-- there is room for one more receipt
abbrev pub HasRoom : KeptReceipts → Type 0
HasRoom kept = kept.last ≡ None
