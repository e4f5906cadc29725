pub mod DayReceiptLemmas
