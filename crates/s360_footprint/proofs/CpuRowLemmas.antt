-- An event of the CPU as a row does what its definition says.
use Rattle.std.proofs.Common.{ℕ, ◌+◌, ◌≡◌, ◌≤◌, ◌∙◌, ◌++◌, ◌&&◌, ◌||◌, Bool, true, false, cond, nat_eq, Option, Some, None, List, [], ◌∷◌, refl, sym, ap}
use Rattle.std.proofs.Common.{length, find, arith}
use Rattle.std.specs.Prelude.{is_some}
use Rattle.std.specs.Option.{option_map, option_map_or}
use Rattle.std.specs.Int.{bytes_high_first}
use Rattle.s360_model.specs.{Core.Core, Core.core_with_bytes, Psw.channel_mask_of, Psw.external_mask_of, Psw.stored_psw, Psw.wait_of}
use Rattle.s360_psw.specs.declared.{class.Class.Class, instruction_length.InstructionLength.InstructionLength, pending.Pending.Pending}
use Rattle.s360_psw.specs.{InstructionLength.length_code_of, Pending.next_interruption_of, Pending.takes_external, Pending.takes_input_output}
use Rattle.s360_fixed.specs.declared.ended.Ended.{Ended}
use Rattle.s360_logic.specs.Instruction.{Instruction, instruction}
use Rattle.s360_word.specs.declared.unit.Unit.{Unit as UnitAddress}
use Rattle.s360_store.specs.declared.place.Place.TheVariants.{Psw, External}
use Rattle.s360_store.proofs.StoredRunLemmas.{length-with_run}
use Rattle.s360_psw.specs.Class.{old_location_of}
use Rattle.s360_channel.specs.IoInstructions.{csw_location}
use Rattle.s360_channel.specs.declared.configured_unit.ConfiguredUnit.{ConfiguredUnit}
use Rattle.s360_channel.specs.declared.configured_unit.ConfiguredUnit.TheVariants.{Reader, Punch, Printer, Console, Tape0, Tape1}
use Rattle.s360_channel.specs.declared.{unit_control.Condition.Condition, unit_control.UnitControl.UnitControl}
use Rattle.s360_channel.specs.ConfiguredUnits.{Units, address_of_unit, channel_of, configured_units, control_of, interrupting_unit, with_control_of}
use Rattle.s360_channel.specs.Units.{condition_of, is_pending}
use Rattle.s360_channel.specs.Words.{csw_doubleword}
use Rattle.s360_machine.specs.Cpu.{after_case, after_cpu, after_ended, after_external, core_after_ended, cpu_case, first_case, pending_of}
use Rattle.s360_machine.specs.InputOutput.{after_io, after_input_output, after_interrupting, after_taking, core_with_csw}
use Rattle.s360_machine.specs.Interruptions.{after_interruption, external_code}
use Rattle.s360_machine.specs.Machine.{Machine, no_external}
use Rattle.s360_machine.specs.RunStates.{is_operating}
use Rattle.s360_footprint.specs.ChannelRows.{control_read, state_store}
use Rattle.s360_footprint.specs.Altering.{Happened}
use Rattle.s360_footprint.specs.CpuRows.{CpuEnd, CpuEventsAreRows, as_executed, condition_row, condition_stores, cpu_row, csw_bytes, executing_row}
use Rattle.s360_footprint.specs.CpuRows.{external_comes, following_row}
use Rattle.s360_footprint.specs.CpuRows.{external_row, external_taken, input_output_row, interrupting_read, nothing, nothing_row, psw_now_read, running_row}
use Rattle.s360_footprint.specs.CpuRows.{taken_row, unit_or_instruction, unit_then}
use Rattle.s360_footprint.specs.InstructionLaws.{row_in}
use Rattle.s360_footprint.specs.InstructionRows.{InstructionEnd, with_instruction}
use Rattle.s360_footprint.specs.InterruptionRows.{ending_row, interruption_stores}
use Rattle.s360_footprint.specs.OperandReadings.{Profile, profile_of}
use Rattle.s360_footprint.specs.Readings.{Reading, bind, done, read, run}
use Rattle.s360_footprint.specs.Rows.{Made, Row, after, with_stores}
use Rattle.s360_footprint.specs.Sequences.{row_through}
use Rattle.s360_footprint.specs.StoringRows.{byte_stores}
use Rattle.s360_footprint.proofs.ChannelRowLemmas.{control-is, control-stored}
use Rattle.s360_footprint.proofs.InstructionLawLemmas.{instructions-are-rows}
use Rattle.s360_footprint.proofs.IoRowLemmas.{io-is}
use Rattle.s360_footprint.proofs.InterruptionRowLemmas.{doubleword-there, interruption-by, interruptions-are-rows}
use Rattle.s360_footprint.proofs.ReadingLemmas.{run-bind}
use Rattle.s360_footprint.proofs.SequenceLemmas.{sequences-are-rows, stores-append}
use Rattle.s360_footprint.proofs.StoringRowLemmas.{all-stored}

-- what follows a reading
after-bind : {X : Type 0} (r : Reading X) (further : X → Row CpuEnd) (m : Machine) (x : X) → run r m ≡ x → after (bind r further) m ≡ after (further x) m
after-bind r further m x e = ap (λ (made : Made CpuEnd). with_stores m m made.stores) (run-bind r further m ∙ ap (λ y. run (further y) m) e)

-- an interruption of no instruction
taken-is : (class : Class) (code : ℕ) (m : Machine) → old_location_of class + 8 ≤ length m.core.storage.bytes
    → with_stores m m (interruption_stores class (psw_now_read code)) ≡ record m { core = after_interruption class code InstructionLength.NotAvailable m.core }
taken-is class code m h = interruption-by class (psw_now_read code) m.core.psw code InstructionLength.NotAvailable m refl h

external-is : (m : Machine) → 128 ≤ length m.core.storage.bytes → after external_row m ≡ after_external m
external-is m h =
    let code : ℕ = external_code m.control.external
    in stores-append m m (interruption_stores Class.External (psw_now_read code)) (external_taken ∷ [])
    ∙ ap (λ (x : Machine). record x { control = record x.control { external = no_external } }) (taken-is Class.External code m (omega (arith, h)))

comes-is : (m : Machine) → run (external_comes m.core.psw) m ≡ takes_external m.core.psw (pending_of m.control m.units)
comes-is m = by (external_mask_of m.core.psw) where
  by : (z : Bool) → run (cond z (read External (λ e. done (e.timer || e.key))) (done false)) m ≡ z && (m.control.external.timer || m.control.external.key)
  by true = refl
  by false = refl

-- the address of a unit
abbrev named : ConfiguredUnit → UnitAddress
named u = record { 0 = address_of_unit u }

-- the unit that interrupts
abbrev interrupts : ℕ → Units → ConfiguredUnit → Bool
interrupts psw units u = channel_mask_of psw (channel_of u) && is_pending (control_of units u)

found-is : (psw : ℕ) (us : List ConfiguredUnit) (m : Machine) → run (interrupting_read psw us) m ≡ find (interrupts psw m.units) us
found-is psw [] m = refl
found-is psw (u ∷ us) m = by (channel_mask_of psw (channel_of u)) (found-is psw us m) where
  by : (z : Bool) → run (interrupting_read psw us) m ≡ find (interrupts psw m.units) us
      → run (cond z (bind (control_read u) (λ c. bind (interrupting_read psw us) (λ later. done (cond (is_pending c) (Some u) later))))
      (interrupting_read psw us)) m
      ≡ cond (z && is_pending (control_of m.units u)) (Some u) (find (interrupts psw m.units) us)
  by true e =
      run-bind (control_read u) (λ c. bind (interrupting_read psw us) (λ later. done (cond (is_pending c) (Some u) later))) m
      ∙ run-bind (interrupting_read psw us) (λ later. done (cond (is_pending (run (control_read u) m)) (Some u) later)) m
      ∙ ap (λ (c : UnitControl). cond (is_pending c) (Some u) (run (interrupting_read psw us) m)) (control-is u m)
      ∙ ap (cond (is_pending (control_of m.units u)) (Some u)) e
  by false e = e

takes-is : (psw : ℕ) (m : Machine) → takes_input_output psw (pending_of m.control m.units) ≡ is_some (interrupting_unit psw m.units)
takes-is psw m =
    by (channel_mask_of psw 0) (channel_mask_of psw 1) (is_pending (control_of m.units Reader)) (is_pending (control_of m.units Punch))
    (is_pending (control_of m.units Printer)) (is_pending (control_of m.units Console)) (is_pending (control_of m.units Tape0))
    (is_pending (control_of m.units Tape1)) where
      by : (c d r p l k s t : Bool)
          → (c && is_some (option_map (λ (u : ConfiguredUnit). named u)
          (cond r (Some Reader) (cond p (Some Punch) (cond l (Some Printer) (cond k (Some Console) None))))))
          || (d && is_some (option_map (λ (u : ConfiguredUnit). named u) (cond s (Some Tape0) (cond t (Some Tape1) None))))
          ≡ is_some (cond (c && r) (Some Reader) (cond (c && p) (Some Punch) (cond (c && l) (Some Printer) (cond (c && k) (Some Console)
          (cond (d && s) (Some Tape0) (cond (d && t) (Some Tape1) None))))))
      by true d true p l k s t = refl
      by true d false true l k s t = refl
      by true d false false true k s t = refl
      by true d false false false true s t = refl
      by true true false false false false true t = refl
      by true true false false false false false true = refl
      by true true false false false false false false = refl
      by true false false false false false s t = refl
      by false true r p l k true t = refl
      by false true r p l k false true = refl
      by false true r p l k false false = refl
      by false false r p l k s t = refl

-- an interruption of a unit
condition-stored : (u : ConfiguredUnit) (c : Condition) (m : Machine) → 128 ≤ length m.core.storage.bytes → condition_of (control_of m.units u) ≡ Some c
    → with_stores m m (condition_stores u)
    ≡ record m { core = core_with_bytes csw_location (bytes_high_first 8 (csw_doubleword c.csw)) m.core; units = with_control_of m.units u c.unit }
condition-stored u c m h e =
    let csw : Reading (List ℕ) = bind (control_read u) (λ control. done (csw_bytes (condition_of control)))
    in let then : Reading UnitControl = bind (control_read u) (λ control. done (unit_then control (condition_of control)))
    in let bytes : List ℕ = bytes_high_first 8 (csw_doubleword c.csw)
    in let csw_is : run csw m ≡ bytes
    = run-bind (control_read u) (λ control. done (csw_bytes (condition_of control))) m
    ∙ ap (λ (k : UnitControl). csw_bytes (condition_of k)) (control-is u m) ∙ ap csw_bytes e
    in let then_is : run then m ≡ c.unit
    = run-bind (control_read u) (λ control. done (unit_then control (condition_of control))) m
    ∙ ap (λ (k : UnitControl). unit_then k (condition_of k)) (control-is u m) ∙ ap (unit_then (control_of m.units u)) e
    in stores-append m m (byte_stores csw_location csw 0 8) (state_store u then)
    ∙ ap (λ x. with_stores m x (state_store u then)) (all-stored csw bytes m m csw_location 8 csw_is refl (omega (arith, h)))
    ∙ control-stored u then m (record m { core = core_with_bytes csw_location bytes m.core })
    ∙ ap (λ k. record m { core = core_with_bytes csw_location bytes m.core; units = with_control_of m.units u k }) then_is

condition-is : (u : ConfiguredUnit) (o : Option Condition) (m : Machine) → 128 ≤ length m.core.storage.bytes → condition_of (control_of m.units u) ≡ o
    → after (condition_row u o) m ≡ option_map_or (λ c. after_taking u c m) o m
condition-is u None m h e = refl
condition-is u (Some c) m h e =
    let code : ℕ = address_of_unit u
    in let bytes : List ℕ = bytes_high_first 8 (csw_doubleword c.csw)
    in let stored : Machine = record m { core = core_with_bytes csw_location bytes m.core; units = with_control_of m.units u c.unit }
    in let size : length stored.core.storage.bytes ≡ length m.core.storage.bytes = length-with_run m.core.storage.bytes bytes csw_location (omega (arith, h))
    in (sequences-are-rows CpuEnd CpuEnd (done (record { ended = nothing; stores = condition_stores u })) (λ e. taken_row Class.InputOutput code) m
    (tt, (tt, (tt, (tt, (tt, (tt, (tt, (tt, doubleword-there 120 m (omega (arith, h))))))))))).machine
    ∙ ap (λ (x : Machine). with_stores x x (interruption_stores Class.InputOutput (psw_now_read code))) (condition-stored u c m h e)
    ∙ taken-is Class.InputOutput code stored (omega (arith, h, size))

unit-is : (u : ConfiguredUnit) (m : Machine) → 128 ≤ length m.core.storage.bytes → after (input_output_row u) m ≡ after_interrupting m u
unit-is u m h =
    after-bind (control_read u) (λ (control : UnitControl). condition_row u (condition_of control)) m (control_of m.units u) (control-is u m)
    ∙ condition-is u (condition_of (control_of m.units u)) m h refl

-- an instruction, and what follows it
core-is : (m : Machine) → 128 ≤ length m.core.storage.bytes
    → after (row_through (run (row_in m) m).stores (ending_row (run (row_in m) m).ended)) m
    ≡ record m { core = core_after_ended (instruction m.core).outcome.ended (instruction m.core) }
core-is m h =
    sym (ap (λ (made : Made InstructionEnd). with_stores m m made.stores)
    (run-bind (row_in m) (λ made. row_through made.stores (ending_row made.ended)) m))
    ∙ interruptions-are-rows m h

end-is : (m : Machine) → (run (row_in m) m).ended ≡ (with_instruction m (instruction m.core)).ended
end-is m = ap (λ (x : Happened InstructionEnd). x.ended) (instructions-are-rows m)

following-is : (ended : Ended) (m : Machine) → 128 ≤ length m.core.storage.bytes → (instruction m.core).outcome.ended ≡ ended
    → after (following_row (profile_of m.core) (run (row_in m) m) ended) m ≡ after_ended ended (instruction m.core) m
following-is Ended.Done m h e = core-is m h ∙ ap (λ x. record m { core = core_after_ended x (instruction m.core) }) e
following-is (Ended.Program code) m h e = core-is m h ∙ ap (λ x. record m { core = core_after_ended x (instruction m.core) }) e
following-is (Ended.Svc code) m h e = core-is m h ∙ ap (λ x. record m { core = core_after_ended x (instruction m.core) }) e
following-is (Ended.Io operation unit) m h e =
    io-is operation unit (run (row_in m) m).ended m h ∙ ap (λ (x : InstructionEnd). after_io operation unit x.next_address m) (end-is m)

executing-is : (m : Machine) → 128 ≤ length m.core.storage.bytes
    → after (executing_row (profile_of m.core)) m ≡ after_ended (instruction m.core).outcome.ended (instruction m.core) m
executing-is m h =
    let p : Profile = profile_of m.core
    in let made : Made InstructionEnd = run (row_in m) m
    in ap (λ (made : Made CpuEnd). with_stores m m made.stores)
    (run-bind (bind (row_in m) (λ made. following_row p made made.ended.ended)) as_executed m)
    ∙ ap (λ (made : Made InstructionEnd). with_stores m m made.stores) (run-bind (row_in m) (λ made. following_row p made made.ended.ended) m)
    ∙ ap (λ (e : InstructionEnd). after (following_row p made e.ended) m) (end-is m)
    ∙ following-is (instruction m.core).outcome.ended m h refl

-- the first case that holds
unit-or-instruction-is : (o : Option ConfiguredUnit) (m : Machine) → 128 ≤ length m.core.storage.bytes
    → interrupting_unit m.core.psw m.units ≡ o
    → after (unit_or_instruction (profile_of m.core) m.core.psw o) m
    ≡ after_case (first_case true (cond (is_some o) (Some Class.InputOutput) None) (wait_of m.core.psw)) m
unit-or-instruction-is (Some u) m h e = unit-is u m h ∙ ap (λ o. option_map_or (after_interrupting m) o m) (sym e)
unit-or-instruction-is None m h e = by (wait_of m.core.psw) where
  by : (z : Bool) → after (cond z nothing_row (executing_row (profile_of m.core))) m ≡ after_case (first_case true None z) m
  by true = refl
  by false = executing-is m h

running-is : (m : Machine) → 128 ≤ length m.core.storage.bytes
    → after (running_row (profile_of m.core) m.core.psw) m
    ≡ after_case (first_case true (next_interruption_of m.core.psw (pending_of m.control m.units)) (wait_of m.core.psw)) m
running-is m h =
    after-bind (external_comes m.core.psw)
    (λ comes. cond comes external_row (bind (interrupting_read m.core.psw configured_units) (unit_or_instruction (profile_of m.core) m.core.psw))) m
    (takes_external m.core.psw (pending_of m.control m.units)) (comes-is m)
    ∙ by (takes_external m.core.psw (pending_of m.control m.units)) where
      by : (z : Bool) → after (cond z external_row (bind (interrupting_read m.core.psw configured_units) (unit_or_instruction (profile_of m.core) m.core.psw))) m
          ≡ after_case (first_case true
          (cond z (Some Class.External) (cond (takes_input_output m.core.psw (pending_of m.control m.units)) (Some Class.InputOutput) None)) (wait_of m.core.psw)) m
      by true = external-is m h
      by false =
          after-bind (interrupting_read m.core.psw configured_units) (unit_or_instruction (profile_of m.core) m.core.psw) m (interrupting_unit m.core.psw m.units)
          (found-is m.core.psw configured_units m)
          ∙ unit-or-instruction-is (interrupting_unit m.core.psw m.units) m h refl
          ∙ ap (λ b. after_case (first_case true (cond b (Some Class.InputOutput) None) (wait_of m.core.psw)) m) (sym (takes-is m.core.psw m))

pub cpu-events-are-rows : CpuEventsAreRows
cpu-events-are-rows m h = by (is_operating m.control.run_state) where
  by : (z : Bool) → after (cond z (read Psw (λ psw. running_row (profile_of m.core) psw)) nothing_row) m
      ≡ after_case (first_case z (next_interruption_of m.core.psw (pending_of m.control m.units)) (wait_of m.core.psw)) m
  by true = running-is m h
  by false = refl
