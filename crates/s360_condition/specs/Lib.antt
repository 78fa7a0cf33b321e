pub mod Evaluation
pub mod Instructions
pub mod Laws
pub mod Reading
pub mod Target
pub mod Values
