pub mod GatheredLemmas
pub mod DifferenceLemmas
pub mod UnitChangeLemmas
pub mod KnownChannels
mod KnownTapes
