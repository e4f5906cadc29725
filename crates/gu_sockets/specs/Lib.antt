pub mod Callers
pub mod Doorways
pub mod Readiness
