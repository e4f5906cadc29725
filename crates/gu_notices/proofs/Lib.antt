pub mod FilterLemmas
pub mod NoticeLemmas
pub mod RecipientLemmas
pub mod Words
