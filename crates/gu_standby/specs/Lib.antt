pub mod Errors
pub mod Following
pub mod Leading
