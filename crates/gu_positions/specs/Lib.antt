pub mod Changes
pub mod Holdings
pub mod Kept
pub mod Numbers
pub mod Rows
