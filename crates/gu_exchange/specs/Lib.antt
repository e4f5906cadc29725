pub mod Endpoints
pub mod Addresses
