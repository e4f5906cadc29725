pub mod Marks
pub mod Moments
pub mod Sources
pub mod Talks
pub mod Turns
pub mod TwoParts
pub mod Visits
