pub mod Checking
pub mod RunErrors
