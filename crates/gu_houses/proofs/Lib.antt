pub mod ReceiptLemmas
pub mod SeatLemmas
pub mod ShareLemmas
pub mod TellingLemmas
