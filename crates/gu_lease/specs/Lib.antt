pub mod Moments
pub mod Lease
pub mod Permits
