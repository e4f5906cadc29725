pub mod Changes
pub mod Kept
pub mod Limits
pub mod Paths
