pub mod CommandLine
pub mod Misfits
pub mod ProgramWords
pub mod Statuses
