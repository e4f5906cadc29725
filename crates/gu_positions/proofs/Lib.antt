pub mod Adding
pub mod Changed
pub mod KeptLots
pub mod OneRowMore
pub mod Places
pub mod RowNumbers
pub mod Words
