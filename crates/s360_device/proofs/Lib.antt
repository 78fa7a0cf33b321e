pub mod ChunkLemmas
pub mod KnownDevices
pub mod EqualityLemmas
pub mod DifferenceLemmas
pub mod DeckLemmas
pub mod GivenLemmas
