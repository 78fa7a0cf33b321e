pub mod InstructionLength
pub mod Class
pub mod Pending
