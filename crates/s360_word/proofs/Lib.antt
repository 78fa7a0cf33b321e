mod KnownPacked
mod PackedLemmas
mod ShiftLemmas
