pub mod Secrets
pub mod Issued
