-- An instruction with the interruption that follows it does what its definition says.
use Rattle.std.proofs.Common.{ℕ, ◌+◌, ◌≡◌, ◌<◌, ◌≤◌, ◌++◌, ◌∙◌, List, [], ◌∷◌, refl, sym, ap, length, arith}
use Rattle.std.specs.Int.{bytes_high_first}
use Rattle.s360_model.specs.{Core.Core, Core.core_with_bytes, Psw.current_psw, Psw.stored_psw, Psw.with_instruction_address, Storage.doubleword_at}
use Rattle.s360_psw.specs.declared.class.Class.{Class}
use Rattle.s360_psw.specs.declared.instruction_length.InstructionLength.{InstructionLength}
use Rattle.s360_psw.specs.Class.{new_location_of, old_location_of}
use Rattle.s360_psw.specs.InstructionLength.{length_code_of}
use Rattle.s360_fixed.specs.declared.ended.Ended.{Ended}
use Rattle.s360_fixed.specs.ProgramCodes.{number_of_code}
use Rattle.s360_logic.specs.Instruction.{Instruction, instruction}
use Rattle.s360_machine.specs.Cpu.{core_after_ended, with_next_address}
use Rattle.s360_machine.specs.Interruptions.{after_interruption}
use Rattle.s360_machine.specs.Machine.{Machine}
use Rattle.s360_footprint.specs.Altering.{Happened}
use Rattle.s360_footprint.specs.InstructionLaws.{row_in}
use Rattle.s360_footprint.specs.InstructionRows.{InstructionEnd}
use Rattle.s360_footprint.specs.InterruptionRows.{InterruptionsAreRows, ending_row, interruption_stores, new_psw_store, old_psw_read, stores_after}
use Rattle.s360_footprint.specs.OperandReadings.{number_read}
use Rattle.s360_footprint.specs.Readings.{AreAllThere, Reading, bind, done, run}
use Rattle.s360_footprint.specs.Rows.{after, with_stores}
use Rattle.s360_footprint.specs.Sequences.{all_read}
use Rattle.s360_footprint.proofs.InstructionLawLemmas.{instructions-are-rows}
use Rattle.s360_footprint.proofs.OperandLemmas.{number-is}
use Rattle.s360_footprint.proofs.ReadingLemmas.{run-bind}
use Rattle.s360_footprint.proofs.SequenceLemmas.{sequences-are-rows, stores-append}
use Rattle.s360_footprint.proofs.RowLemmas.{sizes-stored}
use Rattle.s360_footprint.proofs.StoringRowLemmas.{all-stored}
use Rattle.s360_store.specs.declared.place.Place.TheVariants.{Byte}
use Rattle.s360_footprint.specs.StoringRows.{byte_stores}

-- an interruption
new-psw-is : (class : Class) (m : Machine)
    → run (bind (number_read (new_location_of class) 8) (λ d. done (current_psw d))) m
    ≡ current_psw (doubleword_at m.core.storage.bytes (new_location_of class))
new-psw-is class m = run-bind (number_read (new_location_of class) 8) (λ d. done (current_psw d)) m ∙ ap current_psw (number-is (new_location_of class) 8 m)

pub interruption-by : (class : Class) (old : Reading (List ℕ)) (psw code : ℕ) (long : InstructionLength) (m : Machine)
    → run old m ≡ bytes_high_first 8 (stored_psw psw code (length_code_of long)) → old_location_of class + 8 ≤ length m.core.storage.bytes
    → with_stores m m (interruption_stores class old) ≡ record m { core = after_interruption class code long (record m.core { psw = psw }) }
unfolding after_interruption
interruption-by class old psw code long m e h =
    let bytes : List ℕ = bytes_high_first 8 (stored_psw psw code (length_code_of long))
    in stores-append m m (byte_stores (old_location_of class) old 0 8) (new_psw_store class ∷ [])
    ∙ ap (λ x. with_stores m x (new_psw_store class ∷ [])) (all-stored old bytes m m (old_location_of class) 8 e refl h)
    ∙ ap (λ p. record m { core = record (core_with_bytes (old_location_of class) bytes m.core) { psw = p } }) (new-psw-is class m)

interruption-is : (class : Class) (next code : ℕ) (long : InstructionLength) (m : Machine) → old_location_of class + 8 ≤ length m.core.storage.bytes
    → with_stores m m (interruption_stores class (old_psw_read next code long))
    ≡ record m { core = after_interruption class code long (with_next_address next m.core) }
interruption-is class next code long m h =
    interruption-by class (old_psw_read next code long) (with_instruction_address m.core.psw next) code long m refl h

-- what follows an instruction
following-is : (ended : Ended) (i : Instruction) (m : Machine) → m.core ≡ i.outcome.core → 128 ≤ length m.core.storage.bytes
    → with_stores m m (stores_after ended i.next_address i.instruction_length) ≡ record m { core = core_after_ended ended i }
following-is Ended.Done i m e h = ap (λ c. record m { core = c }) e
following-is (Ended.Program code) i m e h =
    interruption-is Class.Program i.next_address (number_of_code code) i.instruction_length m (omega (arith, h))
    ∙ ap (λ c. record m { core = after_interruption Class.Program (number_of_code code) i.instruction_length (with_next_address i.next_address c) }) e
following-is (Ended.Svc code) i m e h =
    interruption-is Class.Supervisor i.next_address code i.instruction_length m (omega (arith, h))
    ∙ ap (λ c. record m { core = after_interruption Class.Supervisor code i.instruction_length (with_next_address i.next_address c) }) e
following-is (Ended.Io operation unit) i m e h = ap (λ c. record m { core = c }) e

-- the machine has all that is read for it
pub doubleword-there : (a : ℕ) (m : Machine) → a + 8 ≤ length m.core.storage.bytes
    → AreAllThere m (Byte a ∷ Byte (a + 1) ∷ Byte (a + 2) ∷ Byte (a + 3) ∷ Byte (a + 4) ∷ Byte (a + 5) ∷ Byte (a + 6) ∷ Byte (a + 7) ∷ [])
doubleword-there a m h =
    let within : (i : ℕ) → i < 8 → a + i < length m.core.storage.bytes = λ i l. omega (arith, h, l)
    in (
      omega (arith, h),
      (
        within 1 (omega arith),
        (
          within 2 (omega arith),
          (
            within 3 (omega arith),
            (
              within 4 (omega arith),
              (
                within 5 (omega arith),
                (within 6 (omega arith), (within 7 (omega arith), tt)),
              ),
            ),
          ),
        ),
      ),
    )

there : (ended : Ended) (next : ℕ) (long : InstructionLength) (m now : Machine) → 128 ≤ length m.core.storage.bytes
    → AreAllThere m (all_read (ending_row (record { ended = ended; next_address = next; instruction_length = long })) now)
there Ended.Done next long m now h = tt
there (Ended.Program code) next long m now h = (tt, (tt, (tt, (tt, (tt, (tt, (tt, (tt, doubleword-there 104 m (omega (arith, h))))))))))
there (Ended.Svc code) next long m now h = (tt, (tt, (tt, (tt, (tt, (tt, (tt, (tt, doubleword-there 96 m (omega (arith, h))))))))))
there (Ended.Io operation unit) next long m now h = tt

pub interruptions-are-rows : InterruptionsAreRows
interruptions-are-rows m h =
    let i : Instruction = instruction m.core
    in let made : InstructionEnd = (run (row_in m) m).ended
    in let now : Machine = after (row_in m) m
    in let done_by : made ≡ record { ended = i.outcome.ended; next_address = i.next_address; instruction_length = i.instruction_length }
    = ap (λ (x : Happened InstructionEnd). x.ended) (instructions-are-rows m)
    in let machine : now ≡ record m { core = i.outcome.core } = ap (λ (x : Happened InstructionEnd). x.machine) (instructions-are-rows m)
    in let size : length i.outcome.core.storage.bytes ≡ length m.core.storage.bytes
    = ap (λ (x : Machine). length x.core.storage.bytes) (sym machine) ∙ (sizes-stored m m (run (row_in m) m).stores).bytes
    in (sequences-are-rows InstructionEnd InstructionEnd (row_in m) ending_row m
    (there made.ended made.next_address made.instruction_length m now h)).machine
    ∙ ap (λ (x : InstructionEnd). with_stores now now (stores_after x.ended x.next_address x.instruction_length)) done_by
    ∙ ap (λ (x : Machine). with_stores x x (stores_after i.outcome.ended i.next_address i.instruction_length)) machine
    ∙ following-is i.outcome.ended i (record m { core = i.outcome.core }) refl (omega (arith, h, size))
