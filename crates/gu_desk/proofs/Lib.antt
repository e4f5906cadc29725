pub mod AnnalsMoves
pub mod AuditLemmas
pub mod Fronts
pub mod ReceiptLists
pub mod RefusalLemmas
pub mod Words
