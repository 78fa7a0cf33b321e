-- What the CPU does with the channels: the input/output instructions, and the input/output
-- interruption (GA22-6821, "Input/Output Operations").
use Rattle.std.specs.Prelude.{ℕ, ◌/◌}
use Rattle.std.specs.Int.{bytes_high_first}
use Rattle.std.specs.Option.{option_map_or}
use Rattle.s360_model.specs.Core.{Core, core_with_bytes, core_with_psw}
use Rattle.s360_model.specs.Psw.{with_condition_code, with_instruction_address}
use Rattle.s360_word.specs.declared.unit.Unit.{Unit}
use Rattle.s360_psw.specs.declared.class.Class.TheVariants.{InputOutput}
use Rattle.s360_psw.specs.declared.instruction_length.InstructionLength.TheVariants.{NotAvailable}
use Rattle.s360_fixed.specs.declared.ended.IoOperation.{IoOperation}
use Rattle.s360_fixed.specs.declared.ended.IoOperation.TheVariants.{Start, Test, Halt, TestChannel}
use Rattle.s360_channel.specs.declared.io_instructions.CswStore.{CswStore}
use Rattle.s360_channel.specs.declared.io_instructions.CswStore.TheVariants.{Nothing, Status, Csw as whole}
use Rattle.s360_channel.specs.declared.io_instructions.IoResult.{IoResult}
use Rattle.s360_channel.specs.declared.unit_control.Condition.{Condition}
use Rattle.s360_channel.specs.IoInstructions.{csw_location, halt_io, start_io, test_channel, test_io, units_after_io}
use Rattle.s360_channel.specs.Units.{condition_of}
use Rattle.s360_channel.specs.Words.{csw_doubleword, status_halfword}
use Rattle.s360_channel.specs.declared.configured_unit.ConfiguredUnit.{ConfiguredUnit}
use Rattle.s360_machine.specs.Interruptions.{after_interruption}
use Rattle.s360_machine.specs.Machine.{Machine}
use Rattle.s360_channel.specs.ConfiguredUnits.{address_of_unit, control_of, interrupting_unit, with_control_of}

-- bits 32 to 47 of the channel status word are the third halfword of its doubleword
abbrev pub status_location : ℕ
status_location = 68

-- what is stored of the channel status word; no store of it is protected
abbrev pub core_with_csw : CswStore → Core → Core
core_with_csw Nothing m = m
core_with_csw (Status unit channel) m = core_with_bytes status_location (bytes_high_first 2 (status_halfword unit channel)) m
core_with_csw (whole csw) m = core_with_bytes csw_location (bytes_high_first 8 (csw_doubleword csw)) m

-- what an instruction does, by the address that it names: TEST CHANNEL looks at the channel alone
abbrev pub io_result : IoOperation → Unit → Machine → IoResult
io_result Start unit m = start_io m.core.storage m.units unit
io_result Test unit m = test_io m.units unit
io_result Halt unit m = halt_io m.units unit
io_result TestChannel unit m = test_channel m.units (unit.0 / 0x100)

-- the PSW gets the address of the next instruction and the condition code
abbrev pub core_after_io : IoResult → ℕ → Core → Core
core_after_io r next_address m = core_with_csw r.stores (core_with_psw (with_condition_code (with_instruction_address m.psw next_address) r.condition) m)

abbrev pub after_io : IoOperation → Unit → ℕ → Machine → Machine
after_io operation unit next_address m = record m {
  core = core_after_io (io_result operation unit m) next_address m.core;
  units = units_after_io m.units (io_result operation unit m).unit;
}

-- its status word is stored, then the interruption happens with the unit's address as its code, of
-- no instruction (own profile), and the condition is taken
abbrev pub after_taking : ConfiguredUnit → Condition → Machine → Machine
after_taking u c m = record m {
  core = after_interruption InputOutput (address_of_unit u) NotAvailable (core_with_csw (whole c.csw) m.core);
  units = with_control_of m.units u c.unit;
}

abbrev pub after_interrupting : Machine → ConfiguredUnit → Machine
after_interrupting m u = option_map_or (λ c. after_taking u c m) (condition_of (control_of m.units u)) m

abbrev pub after_input_output : Machine → Machine
after_input_output m = option_map_or (after_interrupting m) (interrupting_unit m.core.psw m.units) m
