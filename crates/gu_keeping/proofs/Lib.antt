pub mod Tells
pub mod Cuts
pub mod RowWords
pub mod ChainLemmas
pub mod DayLaws
mod DigestLemmas
mod Keepers
mod Made
mod Opened
mod Results
pub mod Words
