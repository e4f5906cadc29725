pub mod Filters
pub mod Recipients
pub mod Registers
pub mod Telling
