pub mod Answers
pub mod Copies
pub mod Requests
pub mod Served
pub mod Shown
pub mod Status
