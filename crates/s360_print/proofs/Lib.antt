pub mod KnownUnits
pub mod CarriageLemmas
pub mod SignLemmas
pub mod SkipLemmas
pub mod DifferenceLemmas
