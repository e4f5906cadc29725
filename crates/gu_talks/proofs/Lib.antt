pub mod Adding
pub mod Bare
pub mod EndingTurns
pub mod HoldingOn
pub mod Sending
