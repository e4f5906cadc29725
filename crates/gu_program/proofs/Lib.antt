pub mod Checkings
