pub mod CommittedSheets
pub mod Faults
pub mod Journals
pub mod Replaying
pub mod ScriptPieces
pub mod ScriptRuns
pub mod ScriptSteps
