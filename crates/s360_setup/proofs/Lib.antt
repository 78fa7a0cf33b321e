pub mod CommandLineLemmas
pub mod KnownCommandLines
pub mod Texts
