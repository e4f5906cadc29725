mod Histories
mod Results
mod Asking
mod Recalling
mod Splits
mod Entries
pub mod OwnParts
mod SinkMoments
