pub mod AnswerLemmas
pub mod RequestLemmas
pub mod ServedLemmas
pub mod ShownLemmas
