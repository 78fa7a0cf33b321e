pub mod HistoryLemmas
pub mod SegmentLemmas
