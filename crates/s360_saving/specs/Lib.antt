pub mod LastWords
pub mod Reading
pub mod Pages
pub mod Cards
pub mod ConsoleLines
pub mod Files
pub mod Outcomes
