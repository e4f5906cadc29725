mod FirstBytes
mod FormLemmas
mod JoinedWords
pub mod LineFeedLaws
mod LineLemmas
mod NumberLemmas
mod OfferSetLemmas
mod OneLine
mod OneMeaning
mod PieceLemmas
pub mod ReadBackLemmas
mod ReadLemmas
pub mod RightLines
mod ScriptLemmas
pub mod SheetAgain
mod SheetBack
mod SheetLemmas
mod Splits
mod TakesLemmas
mod ViewBounds
pub mod ViewsAgain
mod WordLemmas
pub mod Writable
pub mod WrittenCommandLemmas
pub mod WrittenTakes
