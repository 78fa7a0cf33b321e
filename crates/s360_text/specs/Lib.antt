pub mod Counts
pub mod Digits
pub mod Scripts
pub mod Writing
