-- The instruction length code (GA22-6821, "Interruptions").
use Rattle.std.specs.Prelude.{ℕ}
use Rattle.s360_psw.specs.declared.instruction_length.InstructionLength.{InstructionLength}
use Rattle.s360_psw.specs.declared.instruction_length.InstructionLength.TheVariants.{NotAvailable, OneHalfword, TwoHalfwords, ThreeHalfwords}

-- how many halfwords the instruction has
abbrev pub length_code_of : InstructionLength → ℕ
length_code_of NotAvailable = 0
length_code_of OneHalfword = 1
length_code_of TwoHalfwords = 2
length_code_of ThreeHalfwords = 3
