pub mod CommandLine
pub mod Ending
pub mod Failures
pub mod Images
pub mod Partial
pub mod Programs
pub mod Beginning
