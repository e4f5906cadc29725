pub mod Capture
pub mod PositionText
