pub mod ServeLemmas
pub mod ValueLemmas
pub mod WordLemmas
