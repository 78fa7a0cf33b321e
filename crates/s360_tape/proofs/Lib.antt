pub mod DifferenceLemmas
pub mod KnownTapes
pub mod ImageLemmas
pub mod MeaningLemmas
pub mod FileLemmas
pub mod KnownImages
pub mod RefusalLemmas
