mod CommittedSheets
mod GroupViews
pub mod OneChoice
mod OneSheet
pub mod ReplayLooks
pub mod ReplayPieces
pub mod ReplayRuns
pub mod ReplaySteps
pub mod ReplayTexts
pub mod JournalLaws
mod JournalLemmas
pub mod ScriptLaws
pub mod Words
