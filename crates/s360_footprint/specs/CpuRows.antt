-- An event of the CPU as a row (GA22-6821, "Interruptions", "Status Switching" and "System
-- Structure", program execution).
use Rattle.std.specs.Prelude.{ℕ, ◌≡◌, ◌≤◌, Bool, false, ◌||◌, if◌then◌else◌, Option, None, Some, List, [], ◌∷◌, ◌++◌, length}
use Rattle.std.specs.Int.{bytes_high_first}
use Rattle.s360_model.specs.Psw.{channel_mask_of, external_mask_of, stored_psw, wait_of}
use Rattle.s360_psw.specs.declared.class.Class.{Class}
use Rattle.s360_psw.specs.declared.instruction_length.InstructionLength.{InstructionLength}
use Rattle.s360_psw.specs.InstructionLength.{length_code_of}
use Rattle.s360_store.specs.declared.place.Place.TheVariants.{Psw, Run, External}
use Rattle.s360_fixed.specs.declared.ended.Ended.{Ended}
use Rattle.s360_channel.specs.declared.{configured_unit.ConfiguredUnit.ConfiguredUnit, unit_control.Condition.Condition, unit_control.UnitControl.UnitControl}
use Rattle.s360_channel.specs.ConfiguredUnits.{address_of_unit, channel_of, configured_units}
use Rattle.s360_channel.specs.IoInstructions.{csw_location}
use Rattle.s360_channel.specs.Units.{condition_of, is_pending}
use Rattle.s360_channel.specs.Words.{csw_doubleword}
use Rattle.s360_machine.specs.Cpu.{after_cpu}
use Rattle.s360_machine.specs.Interruptions.{external_code}
use Rattle.s360_machine.specs.Machine.{Machine, no_external}
use Rattle.s360_machine.specs.RunStates.{is_operating}
use Rattle.s360_footprint.specs.ChannelRows.{control_read, state_store}
use Rattle.s360_footprint.specs.FormRows.{form_rows}
use Rattle.s360_footprint.specs.InterruptionRows.{ending_row, interruption_stores}
use Rattle.s360_footprint.specs.InstructionRows.{InstructionEnd, instruction_row}
use Rattle.s360_footprint.specs.IoRows.{io_row}
use Rattle.s360_footprint.specs.OperandReadings.{Profile, profile_of}
use Rattle.s360_footprint.specs.Readings.{Reading, bind, done, read}
use Rattle.s360_footprint.specs.Rows.{Made, Row, Store, after}
use Rattle.s360_footprint.specs.Sequences.{row_through, sequence}
use Rattle.s360_footprint.specs.StoringRows.{byte_stores}

-- what the CPU does: nothing, since the machine does not operate or the CPU waits; it takes an interruption; or it executes an instruction
pub data CpuEnd : Type 0 where
  nothing : CpuEnd
  interrupted : Class → CpuEnd
  executed : InstructionEnd → CpuEnd

abbrev pub nothing_row : Row CpuEnd
nothing_row = done (record { ended = nothing; stores = [] })

-- the PSW that an interruption of no instruction stores, and such an interruption
abbrev pub psw_now_read : ℕ → Reading (List ℕ)
psw_now_read code = read Psw (λ psw. done (bytes_high_first 8 (stored_psw psw code (length_code_of InstructionLength.NotAvailable))))

abbrev pub taken_row : Class → ℕ → Row CpuEnd
taken_row class code = done (record { ended = interrupted class; stores = interruption_stores class (psw_now_read code) })

-- whether an external interruption comes: the conditions are looked at where their mask is one. It takes all of them
abbrev pub external_comes : ℕ → Reading Bool
external_comes psw = if external_mask_of psw then read External (λ e. done (e.timer || e.key)) else done false

abbrev pub external_taken : Store
external_taken = record { place = External; value = done no_external }

abbrev pub external_row : Row CpuEnd
external_row =
    read External (λ e. done (record {
      ended = interrupted Class.External;
      stores = interruption_stores Class.External (psw_now_read (external_code e)) ++ external_taken ∷ [];
    }))

-- the unit that interrupts, of those whose channel the PSW lets interrupt
abbrev pub interrupting_read : ℕ → List ConfiguredUnit → Reading (Option ConfiguredUnit)
interrupting_read psw [] = done None
interrupting_read psw (u ∷ us) =
    if channel_mask_of psw (channel_of u)
    then bind (control_read u) (λ c. bind (interrupting_read psw us) (λ later. done (if is_pending c then Some u else later)))
    else interrupting_read psw us

-- its status word is stored and it stands as its condition says, and then the interruption comes
abbrev pub csw_bytes : Option Condition → List ℕ
csw_bytes None = []
csw_bytes (Some c) = bytes_high_first 8 (csw_doubleword c.csw)

abbrev pub unit_then : UnitControl → Option Condition → UnitControl
unit_then control None = control
unit_then control (Some c) = c.unit

abbrev pub condition_stores : ConfiguredUnit → List Store
condition_stores u =
    byte_stores csw_location (bind (control_read u) (λ control. done (csw_bytes (condition_of control)))) 0 8
    ++ state_store u (bind (control_read u) (λ control. done (unit_then control (condition_of control))))

abbrev pub condition_row : ConfiguredUnit → Option Condition → Row CpuEnd
condition_row u None = nothing_row
condition_row u (Some c) =
    sequence (done (record { ended = nothing; stores = condition_stores u })) (λ (e : CpuEnd). taken_row Class.InputOutput (address_of_unit u))

abbrev pub input_output_row : ConfiguredUnit → Row CpuEnd
input_output_row u = bind (control_read u) (λ control. condition_row u (condition_of control))

-- an instruction with the interruption that follows it
abbrev pub as_executed : Made InstructionEnd → Row CpuEnd
as_executed made = done (record { ended = executed made.ended; stores = made.stores })

-- the channels do an input/output instruction, which stores nothing itself
abbrev pub following_row : Profile → Made InstructionEnd → Ended → Row InstructionEnd
following_row p made (Ended.Io operation unit) = io_row p operation unit made.ended
following_row p made ended = row_through made.stores (ending_row made.ended)

abbrev pub executing_row : Profile → Row CpuEnd
executing_row p = bind (bind (instruction_row form_rows p) (λ made. following_row p made made.ended.ended)) as_executed

-- the first case that holds
abbrev pub unit_or_instruction : Profile → ℕ → Option ConfiguredUnit → Row CpuEnd
unit_or_instruction p psw (Some u) = input_output_row u
unit_or_instruction p psw None = if wait_of psw then nothing_row else executing_row p

abbrev pub running_row : Profile → ℕ → Row CpuEnd
running_row p psw =
    bind (external_comes psw) (λ comes. if comes then external_row else bind (interrupting_read psw configured_units) (unit_or_instruction p psw))

abbrev pub cpu_row : Profile → Row CpuEnd
cpu_row p = read Run (λ r. if is_operating r then read Psw (λ psw. running_row p psw) else nothing_row)

abbrev pub CpuEventsAreRows : Type 0
CpuEventsAreRows = (m : Machine) → 128 ≤ length m.core.storage.bytes → after (cpu_row (profile_of m.core)) m ≡ after_cpu m
