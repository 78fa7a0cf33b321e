pub mod InstructionLemmas
pub mod FieldLemmas
pub mod StepLemmas
pub mod RightToLeftLemmas
pub mod DigitLemmas
mod KnownInstructions
mod KnownLogic
mod KnownStatus
