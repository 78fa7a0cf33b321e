pub mod Numbers
pub mod Sizes
pub mod Segments
pub mod Histories
pub mod Views
