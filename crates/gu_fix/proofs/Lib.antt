pub mod WholeLemmas
pub mod StreamLaws
pub mod NextFrames
pub mod OneReading
pub mod ReadBack
mod Lists
mod StreamLemmas
mod Digits
mod Lengths
mod Bodies
mod Places
mod Scanning
mod Existence
mod Encodings
mod SumLemmas
mod Parts
mod PartsRead
mod SpanLemmas
mod Ends
