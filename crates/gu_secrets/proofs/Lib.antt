mod Bytes
mod Differences
mod IssuedLemmas
mod NamedFirms
mod Splits
