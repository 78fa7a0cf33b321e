pub mod Debugger
pub mod Running
pub mod Answers
pub mod Lines
pub mod LinesLeft
pub mod Script
