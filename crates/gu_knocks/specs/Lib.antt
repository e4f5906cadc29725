pub mod Knocks
pub mod Hearing
pub mod Listening
