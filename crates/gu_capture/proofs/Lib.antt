pub mod Capturings
pub mod Joining
