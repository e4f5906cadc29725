pub mod Changes
pub mod Given
pub mod Groups
pub mod Kept
pub mod Numbers
pub mod Rows
