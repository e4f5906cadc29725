pub mod Blame
pub mod Headline
pub mod Looks
pub mod Outcomes
pub mod Runs
pub mod Series
pub mod Steps
