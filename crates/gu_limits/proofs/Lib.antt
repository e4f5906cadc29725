pub mod Bookings
mod CarriedAccounts
pub mod KeptLimits
pub mod LimitLemmas
pub mod LimitPlaces
pub mod PathKeys
pub mod RowsBetween
pub mod Words
