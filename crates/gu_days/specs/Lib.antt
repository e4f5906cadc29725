pub mod Arriving
pub mod PlayedBack
pub mod Resumed
pub mod SameBooks
