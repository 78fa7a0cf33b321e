mod DigitLemmas
mod HexTextLemmas
pub mod Writes
