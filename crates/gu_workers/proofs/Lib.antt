pub mod InsideHouses
pub mod KnockEnds
pub mod Staying
