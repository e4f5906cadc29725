mod RunLemmas
mod Numerals
mod GroupFaults
mod GroupLemmas
mod ShapeLemmas
mod SecondStandings
mod ItemLemmas
mod StandingLemmas
mod TableLemmas
mod HeldLemmas
mod OutlineLemmas
mod OnlyValues
mod AllocLemmas
mod DateLemmas
pub mod NoFault
pub mod OneFault
mod PlainTexts
mod Encodables
mod SaidOnce
pub mod OneMessage
mod Decided
mod EachSaid
pub mod OneReport
mod Midnights
pub mod Words
