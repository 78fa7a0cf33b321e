pub mod WordLemmas
pub mod ShownLemmas
