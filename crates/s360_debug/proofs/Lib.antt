pub mod PlaceNameLemmas
pub mod LineLemmas
pub mod StandingLemmas
pub mod ReportLemmas
pub mod Readings
pub mod Runs
