pub mod Chains
pub mod Batches
pub mod Days
pub mod Digests
pub mod Making
pub mod Keeping
