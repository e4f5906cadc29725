pub mod Admitting
pub mod Guests
pub mod Knockers
pub mod Places
pub mod Stages
