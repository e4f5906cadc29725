pub mod StoppedReads
pub mod Writing
