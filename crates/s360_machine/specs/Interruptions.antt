-- Interruptions (GA22-6821, "Interruptions").
use Rattle.std.specs.Prelude.{ℕ, ◌+◌, if◌then◌else◌}
use Rattle.std.specs.Int.{bytes_high_first}
use Rattle.s360_model.specs.Core.{Core, core_with_bytes, core_with_psw}
use Rattle.s360_model.specs.Psw.{current_psw, stored_psw}
use Rattle.s360_model.specs.Storage.{doubleword_at}
use Rattle.s360_psw.specs.declared.class.Class.{Class}
use Rattle.s360_psw.specs.declared.instruction_length.InstructionLength.{InstructionLength}
use Rattle.s360_psw.specs.Class.{new_location_of, old_location_of}
use Rattle.s360_psw.specs.InstructionLength.{length_code_of}
use Rattle.s360_machine.specs.declared.external.ExternalConditions.{ExternalConditions}

-- the PSW is stored at the old location of the class, with an interruption code and an instruction
-- length, and the doubleword at the new location becomes the PSW, without its bits 16 to 33. No
-- store of it is protected
unfoldable pub after_interruption : Class → ℕ → InstructionLength → Core → Core
after_interruption class code length m =
    core_with_psw (current_psw (doubleword_at m.storage.bytes (new_location_of class)))
    (core_with_bytes (old_location_of class) (bytes_high_first 8 (stored_psw m.psw code (length_code_of length))) m)

-- the code of an external interruption: bit 24 of the PSW for the timer, bit 25 for the interrupt
-- key
abbrev pub external_code : ExternalConditions → ℕ
external_code e = (if e.timer then 0x80 else 0) + (if e.key then 0x40 else 0)
