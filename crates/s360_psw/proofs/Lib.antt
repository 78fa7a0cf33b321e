pub mod PswLemmas
pub mod PendingLemmas
mod KnownInterruptions
