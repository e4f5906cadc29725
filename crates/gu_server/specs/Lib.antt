pub mod DayEnds
pub mod Receipts
