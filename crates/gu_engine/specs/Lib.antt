pub mod Backlogs
pub mod Closings
pub mod Exchange
pub mod Houses
pub mod Running
pub mod Sends
pub mod Turned
pub mod Turns
