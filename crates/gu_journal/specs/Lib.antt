pub mod Crashes
pub mod Device
pub mod Text
pub mod Sink
pub mod Log
pub mod Kept
pub mod CallLaws
pub mod Calls
