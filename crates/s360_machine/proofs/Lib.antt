pub mod ControlLemmas
pub mod SwapLemmas
pub mod ChangeLemmas
pub mod IoLemmas
pub mod StepLemmas
pub mod InterruptionLemmas
pub mod LoadingLemmas
mod KnownEvents
pub mod SpanLemmas
pub mod PackedLemmas
pub mod StretchLemmas
pub mod DifferenceLemmas
