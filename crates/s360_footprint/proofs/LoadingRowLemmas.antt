-- A channel event with the end of loading as a row does what its definition says.
use Rattle.std.proofs.Common.{ℕ, ◌+◌, ◌≡◌, ◌≤◌, ◌<◌, ◌∙◌, ◌++◌, ◌&&◌, Bool, true, false, cond, nat_eq, Option, Some, None, List, [], ◌∷◌, refl, sym, ap, length}
use Rattle.std.proofs.Common.{arith}
use Rattle.std.specs.Prelude.{flat_map}
use Rattle.std.specs.Option.{option_map, option_map_or}
use Rattle.std.specs.Int.{bytes_high_first}
use Rattle.s360_model.specs.{Core.core_with_bytes, Core.core_with_psw, Psw.current_psw, Storage.doubleword_at}
use Rattle.s360_word.specs.declared.unit.Unit.{Unit as UnitAddress}
use Rattle.s360_store.specs.declared.place.Place.{Place}
use Rattle.s360_channel.specs.declared.configured_unit.ConfiguredUnit.{ConfiguredUnit}
use Rattle.s360_channel.specs.declared.configured_unit.ConfiguredUnit.TheVariants.{Reader, Punch, Printer, Console, Tape0, Tape1}
use Rattle.s360_channel.specs.declared.{csw.Csw.Csw, program.Program.Program, unit_control.UnitControl.UnitControl, unit_state.UnitState.UnitState}
use Rattle.s360_channel.specs.ConfiguredUnits.{HasEachUnit, address_of_unit, control_of, index_of, unit_at, with_control_of}
use Rattle.s360_channel.specs.Differences.{state_place}
use Rattle.s360_channel.specs.Programs.{loading_program}
use Rattle.s360_channel.specs.{Units.program_of, Words.status_halfword}
use Rattle.s360_channel.proofs.UnitChangeLemmas.{control-set}
use Rattle.s360_machine.specs.declared.run_state.RunState.{RunState}
use Rattle.s360_machine.specs.ChannelEvents.{after_channel, after_channel_event, execution_at}
use Rattle.s360_machine.specs.Loading.{after_load, after_loading, core_after_loading, has_loaded}
use Rattle.s360_machine.specs.Loading.{ends_loading as ends_loading_of}
use Rattle.s360_machine.specs.Machine.{Machine}
use Rattle.s360_footprint.specs.ChannelRows.{control_read, state_store, unit_row}
use Rattle.s360_footprint.specs.Laws.{IsSequence}
use Rattle.s360_footprint.specs.LoadingRows.{ChannelEnd, address_row, address_stores, channel_event_row, channel_row, ends_loading, initial_row, initial_stores, loads, row_of_unit}
use Rattle.s360_footprint.specs.OperandReadings.{number_read, profile_of}
use Rattle.s360_footprint.specs.Readings.{AreAllThere, Reading, bind, done, places_read, run}
use Rattle.s360_footprint.specs.Rows.{Made, Row, Store, after, with_stores}
use Rattle.s360_footprint.specs.Sequences.{all_read, sequence}
use Rattle.s360_footprint.specs.Values.{IsThere}
use Rattle.s360_footprint.proofs.ChannelRowLemmas.{control-is, control-stored, status-of, unit-row-ends, unit-row-is}
use Rattle.s360_footprint.proofs.InterruptionRowLemmas.{doubleword-there}
use Rattle.s360_footprint.proofs.OperandLemmas.{number-is}
use Rattle.s360_footprint.proofs.ReadingLemmas.{run-bind, there-both}
use Rattle.s360_footprint.proofs.RowLemmas.{sizes-stored}
use Rattle.s360_footprint.proofs.SequenceLemmas.{sequences-are-rows}
use Rattle.s360_footprint.proofs.StoringRowLemmas.{all-stored}

-- loading ends by the status word that waits, if a program was executed and one waits
loaded-by : Option (Option Csw) → RunState → ConfiguredUnit → Bool
loaded-by (Some (Some csw)) (RunState.Loading unit) u = nat_eq unit.0 (address_of_unit u) && nat_eq (status_halfword csw.unit csw.channel) 0x0C00
loaded-by o r u = false

loaded-is : (r : RunState) (u : ConfiguredUnit) (s t : UnitState) → has_loaded r u s t ≡ loaded-by (option_map (λ p. status-of t) (program_of s)) r u
unfolding loaded-by status-of
loaded-is (RunState.Loading unit) u (UnitState.Active p) (UnitState.Waiting csw) = refl
loaded-is (RunState.Loading unit) u (UnitState.Active p) UnitState.Idle = refl
loaded-is (RunState.Loading unit) u (UnitState.Active p) (UnitState.Active q) = refl
loaded-is (RunState.Loading unit) u UnitState.Idle t = refl
loaded-is (RunState.Loading unit) u (UnitState.Waiting csw) t = refl
loaded-is RunState.Operating u (UnitState.Active p) (UnitState.Waiting csw) = refl
loaded-is RunState.Operating u (UnitState.Active p) UnitState.Idle = refl
loaded-is RunState.Operating u (UnitState.Active p) (UnitState.Active q) = refl
loaded-is RunState.Operating u UnitState.Idle t = refl
loaded-is RunState.Operating u (UnitState.Waiting csw) t = refl
loaded-is RunState.Stopped u (UnitState.Active p) (UnitState.Waiting csw) = refl
loaded-is RunState.Stopped u (UnitState.Active p) UnitState.Idle = refl
loaded-is RunState.Stopped u (UnitState.Active p) (UnitState.Active q) = refl
loaded-is RunState.Stopped u UnitState.Idle t = refl
loaded-is RunState.Stopped u (UnitState.Waiting csw) t = refl

-- whether it ends, and what is stored then, by how the unit ended
address-ends : (u : ConfiguredUnit) (o : Option UnitState) (n : Machine)
    → ends_loading (run (address_row u o) n).ended ≡ loaded-by (option_map status-of o) n.control.run_state u
unfolding loaded-by
address-ends u None n = refl
address-ends u (Some state) n = loaded-is n.control.run_state u (UnitState.Active loading_program) state

address-stored : (u : ConfiguredUnit) (o : Option UnitState) (n : Machine)
    → after (address_row u o) n ≡ with_stores n n (cond (loaded-by (option_map status-of o) n.control.run_state u) (address_stores u) [])
unfolding loaded-by
address-stored u None n = refl
address-stored u (Some state) n =
    ap (λ z. with_stores n n (cond z (address_stores u) [])) (loaded-is n.control.run_state u (UnitState.Active loading_program) state)

-- the machine has all that is read for it
unit-there : (u : ConfiguredUnit) (m : Machine) → HasEachUnit m.units → IsThere m (state_place u)
unit-there Reader m h = let l : 0 < length m.units = omega (arith, h) in l
unit-there Punch m h = let l : 1 < length m.units = omega (arith, h) in l
unit-there Printer m h = let l : 2 < length m.units = omega (arith, h) in l
unit-there Console m h = let l : 3 < length m.units = omega (arith, h) in l
unit-there Tape0 m h = let l : 4 < length m.units = omega (arith, h) in l
unit-there Tape1 m h = let l : 5 < length m.units = omega (arith, h) in l

there-for-address : (u : ConfiguredUnit) (o : Option UnitState) (m n : Machine) → AreAllThere m (all_read (address_row u o) n)
there-for-address u None m n = tt
there-for-address u (Some state) m n = (tt, by (loads n.control.run_state u state)) where
  by : (z : Bool) → AreAllThere m (flat_map (λ (s : Store). places_read s.value n) (cond z (address_stores u) []))
  by true = tt
  by false = tt

there-for-initial : (u : ConfiguredUnit) (e : Option ChannelEnd) (m k : Machine) → 128 ≤ length m.core.storage.bytes → HasEachUnit m.units
    → AreAllThere m (all_read (initial_row u e) k)
there-for-initial u e m k h g = by (ends_loading e) where
  by : (z : Bool) → AreAllThere m (flat_map (λ (s : Store). places_read s.value k) (cond z (initial_stores u) []))
  by true =
      there-both m (places_read (bind (number_read 0 8) (λ doubleword. done (current_psw doubleword))) k) (state_place u ∷ [])
      (doubleword-there 0 m (omega (arith, h))) (unit-there u m g, tt)
  by false = tt

-- the end of loading
initial-stored : (u : ConfiguredUnit) (k : Machine)
    → with_stores k k (initial_stores u)
    ≡ record k {
      core = core_with_psw (current_psw (doubleword_at k.core.storage.bytes 0)) k.core;
      control = record k.control { run_state = RunState.Operating };
      units = with_control_of k.units u (record (control_of k.units u) { state = UnitState.Idle });
    }
initial-stored u k =
    let psw : Reading ℕ = bind (number_read 0 8) (λ doubleword. done (current_psw doubleword))
    in let idle : Reading UnitControl = bind (control_read u) (λ (c : UnitControl). done (record c { state = UnitState.Idle }))
    in let operating : Machine = record k { core = core_with_psw (run psw k) k.core; control = record k.control { run_state = RunState.Operating } }
    in control-stored u idle k operating
    ∙ ap (λ c. record operating { units = with_control_of k.units u c })
    (run-bind (control_read u) (λ (c : UnitControl). done (record c { state = UnitState.Idle })) k
    ∙ ap (λ (c : UnitControl). record c { state = UnitState.Idle }) (control-is u k))
    ∙ ap (λ v. record operating {
      core = core_with_psw v k.core;
      units = with_control_of k.units u (record (control_of k.units u) { state = UnitState.Idle });
    })
    (run-bind (number_read 0 8) (λ doubleword. done (current_psw doubleword)) k ∙ ap current_psw (number-is 0 8 k))

load-stored : (u : ConfiguredUnit) (n k : Machine) (z : Bool) → 128 ≤ length n.core.storage.bytes → k ≡ with_stores n n (cond z (address_stores u) [])
    → with_stores k k (cond z (initial_stores u) []) ≡ cond z (after_load u n) n
unfolding core_after_loading
load-stored u n k false h e = e
load-stored u n k true h e =
    let bytes : List ℕ = bytes_high_first 2 (address_of_unit u)
    in let stored : Machine = record n { core = core_with_bytes 2 bytes n.core }
    in let is : k ≡ stored = e ∙ all-stored (done bytes) bytes n n 2 2 refl refl (omega (arith, h))
    in ap (λ x. with_stores x x (initial_stores u)) is ∙ initial-stored u stored

-- a channel event
channel-row-is : (u : ConfiguredUnit) (m : Machine) → 128 ≤ length m.core.storage.bytes → HasEachUnit m.units
    → after (channel_row (profile_of m.core) u) m ≡ after_loading u m (after_channel u m)
channel-row-is u m h g =
    let first : Row (Option UnitState) = unit_row (profile_of m.core) u
    in let n : Machine = after first m
    in let o : Option UnitState = (run first m).ended
    in let second : Row (Option ChannelEnd) = sequence first (address_row u)
    in let k : Machine = after second m
    in let e : Option ChannelEnd = (run second m).ended
    in let now : Machine = after_channel u m
    in let steps : IsSequence first (address_row u) m
    = sequences-are-rows (Option UnitState) (Option ChannelEnd) first (address_row u) m (there-for-address u o m n)
    in let whole : IsSequence second (initial_row u) m
    = sequences-are-rows (Option ChannelEnd) (Option ChannelEnd) second (initial_row u) m (there-for-initial u e m k h g)
    in let z : Bool = loaded-by (option_map status-of o) n.control.run_state u
    in let ends : ends_loading e ≡ z = ap ends_loading steps.ended ∙ address-ends u o n
    in let stored : k ≡ with_stores n n (cond z (address_stores u) []) = steps.machine ∙ address-stored u o n
    in let size : length n.core.storage.bytes ≡ length m.core.storage.bytes = (sizes-stored m m (run first m).stores).bytes
    in let is : n ≡ now = unit-row-is u m
    in let state : (control_of now.units u).state ≡ (execution_at u m).state
    = ap (λ (c : UnitControl). c.state) (control-set m.units u (record (control_of m.units u) { state = (execution_at u m).state }) g)
    in let found : z ≡ ends_loading_of u m now.units
    = ap (λ s. loaded-by s n.control.run_state u) (unit-row-ends u m)
    ∙ ap (λ (x : Machine). loaded-by (option_map (λ p. status-of (execution_at u m).state) (program_of (control_of m.units u).state)) x.control.run_state u) is
    ∙ sym (loaded-is m.control.run_state u (control_of m.units u).state (execution_at u m).state)
    ∙ ap (has_loaded m.control.run_state u (control_of m.units u).state) (sym state)
    in whole.machine
    ∙ ap (λ b. with_stores k k (cond b (initial_stores u) [])) ends
    ∙ load-stored u n k z (omega (arith, h, size)) stored
    ∙ ap (λ x. cond z (after_load u x) x) is
    ∙ ap (λ b. cond b (after_load u now) now) found

pub channel-event-is : (unit : UnitAddress) (m : Machine) → 128 ≤ length m.core.storage.bytes → HasEachUnit m.units
    → after (channel_event_row (profile_of m.core) unit) m ≡ after_channel_event unit m
channel-event-is unit m h g = by (unit_at unit.0) where
  by : (o : Option ConfiguredUnit)
      → after (row_of_unit (profile_of m.core) o) m ≡ option_map_or (λ u. after_loading u m (after_channel u m)) o m
  by None = refl
  by (Some u) = channel-row-is u m h g
