-- An input/output instruction as a row does what its definition says.
use Rattle.std.proofs.Common.{ℕ, ◌/◌, ◌≡◌, ◌≤◌, ◌∙◌, ◌||◌, Bool, true, false, cond, nat_eq, Option, Some, None, List, [], ◌∷◌, refl, ap, length, arith}
use Rattle.std.specs.Prelude.{is_some, unwrap_or}
use Rattle.std.specs.Option.{option_map_or}
use Rattle.std.specs.Int.{bytes_high_first}
use Rattle.s360_model.specs.{Core.Core, Core.core_with_psw, Psw.with_condition_code, Psw.with_instruction_address, Storage.word_at}
use Rattle.s360_word.specs.declared.unit.Unit.{Unit as UnitAddress}
use Rattle.s360_store.specs.declared.place.Place.{Place}
use Rattle.s360_store.specs.declared.place.Place.TheVariants.{Psw}
use Rattle.s360_fixed.specs.declared.ended.IoOperation.{IoOperation}
use Rattle.s360_channel.specs.declared.{caw.Caw.Caw, configured_unit.ConfiguredUnit.ConfiguredUnit}
use Rattle.s360_channel.specs.declared.configured_unit.ConfiguredUnit.TheVariants.{Reader, Punch, Printer, Console, Tape0, Tape1}
use Rattle.s360_channel.specs.declared.io_instructions.{CswStore.CswStore, IoResult.IoResult, UnitAfter.UnitAfter}
use Rattle.s360_channel.specs.declared.{program.Program.Program, unit_control.UnitControl.UnitControl}
use Rattle.s360_channel.specs.ConfiguredUnits.{active_beside, control_of, is_occupied, unit_at, with_control_of}
use Rattle.s360_channel.specs.Differences.{state_place}
use Rattle.s360_channel.specs.IoInstructions.{becomes, caw_location, csw_location, halt_unit, halted_unit, has_tape, not_operational, start_unit, start_with}
use Rattle.s360_channel.specs.IoInstructions.{started, test_channel, test_unit, units_after_io, with_code, with_status}
use Rattle.s360_channel.specs.{Programs.next_ccw, Programs.program_at, Units.idle_unit, Units.is_active, Units.is_waiting}
use Rattle.s360_channel.specs.Words.{asks_attention, caw_of, csw_doubleword, is_whole_caw, meets_program_check, no_channel_status, no_unit_status}
use Rattle.s360_channel.specs.Words.{status_halfword}
use Rattle.s360_machine.specs.InputOutput.{after_io, core_with_csw, io_result, status_location}
use Rattle.s360_machine.specs.Machine.{Machine}
use Rattle.s360_footprint.specs.ChannelReadings.{next_ccw_read}
use Rattle.s360_footprint.specs.ChannelRows.{control_read}
use Rattle.s360_footprint.specs.InstructionRows.{InstructionEnd}
use Rattle.s360_footprint.specs.IoRows.{beside_read, coded_psw, csw_stores, halt_beside, halt_read, io_result_read, io_row, io_stores, of_unit, start_read}
use Rattle.s360_footprint.specs.IoRows.{start_with_read, test_channel_read, test_tapes_read, unit_and_address_word, unit_stores}
use Rattle.s360_footprint.specs.OperandReadings.{number_read, profile_of}
use Rattle.s360_footprint.specs.Readings.{Reading, bind, done, made_of, run}
use Rattle.s360_footprint.specs.Rows.{Made, Store, after, with_stores}
use Rattle.s360_footprint.proofs.ChannelReadingLemmas.{next-is}
use Rattle.s360_footprint.proofs.ChannelRowLemmas.{control-is, control-stored}
use Rattle.s360_footprint.proofs.OperandLemmas.{number-is}
use Rattle.s360_footprint.proofs.ReadingLemmas.{run-bind, run-made-of}
use Rattle.s360_footprint.proofs.SequenceLemmas.{stores-append}
use Rattle.s360_footprint.proofs.StoringRowLemmas.{all-stored}

-- the other tape
beside-is : (u : ConfiguredUnit) (m : Machine) → run (beside_read u) m ≡ active_beside m.units u
beside-is Reader m = refl
beside-is Punch m = refl
beside-is Printer m = refl
beside-is Console m = refl
beside-is Tape0 m = refl
beside-is Tape1 m = refl

-- START I/O
start-with-is : (u : ConfiguredUnit) (caw : Caw) (m : Machine) → run (start_with_read (profile_of m.core) u caw) m ≡ start_with m.core.storage u caw
start-with-is u caw m = by (is_whole_caw caw) where
  by : (z : Bool)
      → run (cond z (bind (next_ccw_read (profile_of m.core) (program_at caw.key caw.address)) (λ f. done (started u (program_at caw.key caw.address) f)))
      (done (with_status no_unit_status meets_program_check None))) m
      ≡ cond z (started u (program_at caw.key caw.address) (next_ccw m.core.storage (program_at caw.key caw.address)))
      (with_status no_unit_status meets_program_check None)
  by true =
      let program : Program = program_at caw.key caw.address
      in run-bind (next_ccw_read (profile_of m.core) program) (λ f. done (started u program f)) m ∙ ap (started u program) (next-is program m)
  by false = refl

start-is : (occupied : Bool) (u : ConfiguredUnit) (control : UnitControl) (m : Machine)
    → run (start_read (profile_of m.core) occupied u control) m ≡ start_unit m.core.storage occupied u control
start-is occupied u control m = by (is_active control.state || (is_waiting control.state || occupied)) control.attention where
  attention : IoResult
  attention = with_status (record asks_attention { busy = true }) no_channel_status (becomes u idle_unit)

  by : (unavailable asks : Bool)
      → run (cond unavailable (done (with_code 2))
      (cond asks (done attention) (bind (number_read caw_location 4) (λ word. start_with_read (profile_of m.core) u (caw_of word))))) m
      ≡ cond unavailable (with_code 2) (cond asks attention (start_with m.core.storage u (caw_of (word_at m.core.storage.bytes caw_location))))
  by true asks = refl
  by false true = refl
  by false false =
      run-bind (number_read caw_location 4) (λ word. start_with_read (profile_of m.core) u (caw_of word)) m
      ∙ ap (λ word. run (start_with_read (profile_of m.core) u (caw_of word)) m) (number-is caw_location 4 m)
      ∙ start-with-is u (caw_of (word_at m.core.storage.bytes caw_location)) m

-- HALT I/O
halt-is : (u : ConfiguredUnit) (active : Bool) (o : Option ConfiguredUnit) (m : Machine)
    → run (cond active (done (halt_unit u (control_of m.units u))) (halt_beside u (control_of m.units u) o)) m
    ≡ halt_unit (cond active u (unwrap_or o u)) (control_of m.units (cond active u (unwrap_or o u)))
halt-is u true o m = refl
halt-is u false None m = refl
halt-is u false (Some w) m = run-bind (control_read w) (λ c. done (halt_unit w c)) m ∙ ap (halt_unit w) (control-is w m)

-- TEST CHANNEL
channel-is : (channel : ℕ) (m : Machine) → run (test_channel_read channel) m ≡ test_channel m.units channel
channel-is channel m = by (nat_eq channel 0) (nat_eq channel 1) where
  by : (first second : Bool) → run (cond first (done (with_code 0)) (cond second test_tapes_read (done not_operational))) m
      ≡ cond first (with_code 0)
      (cond second (with_code (cond (has_tape is_active m.units) 2 (cond (has_tape is_waiting m.units) 1 0))) not_operational)
  by true second = refl
  by false true = refl
  by false false = refl

-- what the channels make of an instruction
of-unit-is : (result : ConfiguredUnit → UnitControl → Option ConfiguredUnit → Reading IoResult) (expected : ConfiguredUnit → IoResult)
    (o : Option ConfiguredUnit) (m : Machine)
    → ((u : ConfiguredUnit) → run (result u (control_of m.units u) (active_beside m.units u)) m ≡ expected u)
    → run (of_unit result o) m ≡ option_map_or expected o not_operational
of-unit-is result expected None m h = refl
of-unit-is result expected (Some u) m h =
    run-bind (control_read u) (λ (c : UnitControl). bind (beside_read u) (λ other. result u c other)) m
    ∙ ap (λ (c : UnitControl). run (bind (beside_read u) (λ other. result u c other)) m) (control-is u m)
    ∙ run-bind (beside_read u) (λ other. result u (control_of m.units u) other) m
    ∙ ap (λ other. run (result u (control_of m.units u) other) m) (beside-is u m)
    ∙ h u

pub result-is : (operation : IoOperation) (unit : UnitAddress) (m : Machine)
    → run (io_result_read (profile_of m.core) operation unit) m ≡ io_result operation unit m
result-is IoOperation.Start unit m =
    of-unit-is (λ u c other. start_read (profile_of m.core) (is_some other) u c)
    (λ u. start_unit m.core.storage (is_occupied m.units u) u (control_of m.units u)) (unit_at unit.0) m
    (λ u. start-is (is_occupied m.units u) u (control_of m.units u) m)
result-is IoOperation.Test unit m =
    of-unit-is (λ u c other. done (test_unit (is_some other) u c)) (λ u. test_unit (is_occupied m.units u) u (control_of m.units u)) (unit_at unit.0) m
    (λ u. refl)
result-is IoOperation.Halt unit m =
    of-unit-is halt_read (λ u. halt_unit (halted_unit m.units u) (control_of m.units (halted_unit m.units u))) (unit_at unit.0) m
    (λ u. halt-is u (is_active (control_of m.units u).state) (active_beside m.units u) m)
result-is IoOperation.TestChannel unit m = channel-is (unit.0 / 0x100) m

-- its stores
csw-stored : (c : CswStore) (places : List Place) (m : Machine) → 128 ≤ length m.core.storage.bytes
    → with_stores m m (csw_stores c places) ≡ record m { core = core_with_csw c m.core }
csw-stored CswStore.Nothing places m h = refl
csw-stored (CswStore.Status unit channel) places m h =
    let bytes : List ℕ = bytes_high_first 2 (status_halfword unit channel)
    in all-stored (made_of places bytes) bytes m m status_location 2 (run-made-of places bytes m) refl (omega (arith, h))
csw-stored (CswStore.Csw csw) places m h =
    let bytes : List ℕ = bytes_high_first 8 (csw_doubleword csw)
    in all-stored (made_of places bytes) bytes m m csw_location 8 (run-made-of places bytes m) refl (omega (arith, h))

unit-stored : (o : Option UnitAfter) (m x : Machine) → with_stores m x (unit_stores o) ≡ record x { units = units_after_io x.units o }
unit-stored None m x = refl
unit-stored (Some a) m x = control-stored a.unit (made_of (state_place a.unit ∷ []) a.control) m x

psw-after-csw : (c : CswStore) (psw : ℕ) (k : Core) → core_with_psw psw (core_with_csw c k) ≡ core_with_csw c (core_with_psw psw k)
psw-after-csw CswStore.Nothing psw k = refl
psw-after-csw (CswStore.Status unit channel) psw k = refl
psw-after-csw (CswStore.Csw csw) psw k = refl

pub io-is : (operation : IoOperation) (unit : UnitAddress) (e : InstructionEnd) (m : Machine) → 128 ≤ length m.core.storage.bytes
    → after (io_row (profile_of m.core) operation unit e) m ≡ after_io operation unit e.next_address m
io-is operation unit e m h =
    let r : IoResult = io_result operation unit m
    in let psw : ℕ = with_condition_code (with_instruction_address m.core.psw e.next_address) r.condition
    in let rest : List Store = record { place = Psw; value = coded_psw e.next_address r.condition } ∷ unit_stores r.unit
    in ap (λ (made : Made InstructionEnd). with_stores m m made.stores)
    (run-bind (io_result_read (profile_of m.core) operation unit) (λ r. done (record { ended = e; stores = io_stores unit e.next_address r })) m)
    ∙ ap (λ r. with_stores m m (io_stores unit e.next_address r)) (result-is operation unit m)
    ∙ stores-append m m (csw_stores r.stores (unit_and_address_word unit)) rest
    ∙ ap (λ x. with_stores m x rest) (csw-stored r.stores (unit_and_address_word unit) m h)
    ∙ unit-stored r.unit m (record m { core = core_with_psw psw (core_with_csw r.stores m.core) })
    ∙ ap (λ k. record m { core = k; units = units_after_io m.units r.unit }) (psw-after-csw r.stores psw m.core)
