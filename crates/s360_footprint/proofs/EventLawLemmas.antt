-- Each event does what its row does, and the laws of events follow from the laws of rows.
use Rattle.std.proofs.Common.{ℕ, ◌+◌, ◌/◌, ◌≡◌, ◌≤◌, ◌∙◌, ◌++◌, Bool, true, false, cond, nat_lt, Option, Some, None, List, [], ◌∷◌, refl, sym, ap, length, set, get_or}
use Rattle.std.proofs.Common.{arith}
use Rattle.std.proofs.lemmas.Bool.{ltb-false}
use Rattle.std.specs.Int.{bytes_high_first}
use Rattle.s360_model.specs.{Core.core_with_bytes, Core.core_with_key, Storage.block_size, Storage.key_of_block, Storage.with_fetch_bit}
use Rattle.s360_store.specs.declared.place.Place.{Place}
use Rattle.s360_store.specs.declared.place.Place.TheVariants.{External}
use Rattle.s360_channel.specs.declared.configured_unit.ConfiguredUnit.{ConfiguredUnit}
use Rattle.s360_channel.specs.declared.configured_unit.ConfiguredUnit.TheVariants.{Reader, Punch, Printer, Console, Tape0, Tape1}
use Rattle.s360_channel.specs.declared.unit_control.UnitControl.{UnitControl}
use Rattle.s360_channel.specs.ConfiguredUnits.{HasEachUnit, Units, control_of, unit_at}
use Rattle.s360_machine.specs.declared.{event.Event.Event, event.Patch.Patch, operator.Key.Key, refusal.Refusal.Refusal, run_state.RunState.RunState}
use Rattle.s360_machine.specs.Loading.{units_after_reset}
use Rattle.s360_machine.specs.Machine.{Control, Machine, no_external, storage_size}
use Rattle.s360_machine.specs.Operator.{after_key}
use Rattle.s360_machine.specs.Refusals.{refusal_of, refusal_of_patch}
use Rattle.s360_machine.specs.RunStates.{is_operating}
use Rattle.s360_machine.specs.Step.{after as after_event, after_patch}
use Rattle.s360_machine.specs.Timer.{after_tick, control_after_tick, core_after_tick, runs_out, timer_after_tick, timer_location, timer_of}
use Rattle.s360_footprint.specs.CpuRows.{cpu_row}
use Rattle.s360_footprint.specs.EventLaws.{EventDecided, EventFollows, EventKeepsOthers, EventsAreRows, Happens}
use Rattle.s360_footprint.specs.EventRows.{EventEnd, ending_as, event_row, row_in}
use Rattle.s360_footprint.specs.LoadingRows.{channel_event_row}
use Rattle.s360_footprint.specs.OperandReadings.{Profile, number_read, profile_of}
use Rattle.s360_footprint.specs.OperatorRows.{block_store, key_stores, patch_stores, reset_stores, reset_units}
use Rattle.s360_footprint.specs.Readings.{Reading, bind, done, run}
use Rattle.s360_footprint.specs.Rows.{Made, Row, after, with_stores}
use Rattle.s360_footprint.specs.TimerRows.{conditions_after_tick, conditions_read, tick_row, tick_stores, timer_read}
use Rattle.s360_footprint.specs.StoringRows.{byte_stores}
use Rattle.s360_footprint.specs.Values.{AreAlike, value_there}
use Rattle.s360_footprint.proofs.CpuRowLemmas.{cpu-events-are-rows}
use Rattle.s360_footprint.proofs.InstructionLawLemmas.{same-profile}
use Rattle.s360_footprint.proofs.LoadingRowLemmas.{channel-event-is}
use Rattle.s360_footprint.proofs.OperandLemmas.{number-is}
use Rattle.s360_footprint.proofs.ReadingLemmas as readings
use Rattle.s360_footprint.proofs.ReadingLemmas.{run-bind}
use Rattle.s360_footprint.proofs.RowLemmas.{follows, keeps-others}
use Rattle.s360_footprint.proofs.SequenceLemmas.{stores-append}
use Rattle.s360_footprint.proofs.StoringRowLemmas.{all-stored}

-- a tick
word-is : (m : Machine) → run (number_read timer_location 4) m ≡ timer_of m.core
word-is m = number-is timer_location 4 m

conditions-are : (m : Machine) → record m.control { external = run conditions_read m } ≡ control_after_tick (timer_of m.core) m.control
conditions-are m =
    ap (λ e. record m.control { external = e })
    (run-bind (number_read timer_location 4) (λ word. done (conditions_after_tick m.control.external word)) m
    ∙ ap (conditions_after_tick m.control.external) (word-is m))
    ∙ by (runs_out (timer_of m.core)) where
      by : (z : Bool)
          → record m.control { external = cond z (record m.control.external { timer = true }) m.control.external }
          ≡ cond z (record m.control { external = record m.control.external { timer = true } }) m.control
      by true = refl
      by false = refl

tick-stored : (m : Machine) → 128 ≤ length m.core.storage.bytes
    → with_stores m m tick_stores ≡ record m { core = core_after_tick m.core; control = control_after_tick (timer_of m.core) m.control }
tick-stored m h =
    let bytes : List ℕ = bytes_high_first 4 (timer_after_tick (timer_of m.core))
    in let is : run timer_read m ≡ bytes
    = run-bind (number_read timer_location 4) (λ word. done (bytes_high_first 4 (timer_after_tick word))) m
    ∙ ap (λ word. bytes_high_first 4 (timer_after_tick word)) (word-is m)
    in stores-append m m (byte_stores timer_location timer_read 0 4) (record { place = External; value = conditions_read } ∷ [])
    ∙ ap (λ x. with_stores m x (record { place = External; value = conditions_read } ∷ []))
    (all-stored timer_read bytes m m timer_location 4 is refl (omega (arith, h)))
    ∙ ap (λ c. record m { core = core_with_bytes timer_location bytes m.core; control = c }) (conditions-are m)

tick-is : (m : Machine) → 128 ≤ length m.core.storage.bytes → after tick_row m ≡ after_tick m
tick-is m h = by (is_operating m.control.run_state) where
  by : (z : Bool) → with_stores m m (cond z tick_stores [])
      ≡ cond z (record m { core = core_after_tick m.core; control = control_after_tick (timer_of m.core) m.control }) m
  by true = tick-stored m h
  by false = refl

-- a reset of the six units
six-set : (us : Units) (a b c d e f : UnitControl) → length us ≡ 6
    → set (set (set (set (set (set us 0 a) 1 b) 2 c) 3 d) 4 e) 5 f ≡ a ∷ (b ∷ (c ∷ (d ∷ (e ∷ (f ∷ [])))))
six-set (u0 ∷ (u1 ∷ (u2 ∷ (u3 ∷ (u4 ∷ (u5 ∷ [])))))) a b c d e f h = refl
six-set [] a b c d e f h = absurd (omega (arith, h))
six-set (u0 ∷ []) a b c d e f h = absurd (omega (arith, h))
six-set (u0 ∷ (u1 ∷ [])) a b c d e f h = absurd (omega (arith, h))
six-set (u0 ∷ (u1 ∷ (u2 ∷ []))) a b c d e f h = absurd (omega (arith, h))
six-set (u0 ∷ (u1 ∷ (u2 ∷ (u3 ∷ [])))) a b c d e f h = absurd (omega (arith, h))
six-set (u0 ∷ (u1 ∷ (u2 ∷ (u3 ∷ (u4 ∷ []))))) a b c d e f h = absurd (omega (arith, h))
six-set (u0 ∷ (u1 ∷ (u2 ∷ (u3 ∷ (u4 ∷ (u5 ∷ (u6 ∷ us))))))) a b c d e f h = absurd (omega (arith, h))

each-reset : (o : Option ConfiguredUnit)
    → control_of (units_after_reset o) Reader
    ∷ (control_of (units_after_reset o) Punch
    ∷ (control_of (units_after_reset o) Printer
    ∷ (control_of (units_after_reset o) Console
    ∷ (control_of (units_after_reset o) Tape0 ∷ (control_of (units_after_reset o) Tape1 ∷ [])))))
    ≡ units_after_reset o
each-reset None = refl
each-reset (Some Reader) = refl
each-reset (Some Punch) = refl
each-reset (Some Printer) = refl
each-reset (Some Console) = refl
each-reset (Some Tape0) = refl
each-reset (Some Tape1) = refl

reset-is : (r : RunState) (o : Option ConfiguredUnit) (m : Machine) → HasEachUnit m.units
    → with_stores m m (reset_stores r o)
    ≡ record m { control = record m.control { run_state = r; external = no_external }; units = units_after_reset o }
reset-is r o m h =
    ap (λ us. record m { control = record m.control { run_state = r; external = no_external }; units = us })
    (six-set m.units _ _ _ _ _ _ h ∙ each-reset o)

-- a key
key-is : (k : Key) (m : Machine) → HasEachUnit m.units → with_stores m m (key_stores k) ≡ after_key m k
key-is Key.Start m h = refl
key-is Key.Stop m h = refl
key-is Key.Reset m h = reset-is RunState.Stopped None m h
key-is (Key.Load unit) m h = reset-is (RunState.Loading unit) (unit_at unit.0) m h
key-is Key.Interrupt m h = refl
key-is Key.EndOfFile m h = refl
key-is Key.Request m h = refl
key-is (Key.Enter line) m h = refl

-- a patch
bytes-inside : (m : Machine) (at : ℕ) (bytes : List ℕ) → refusal_of_patch (storage_size m) (Patch.Bytes at bytes) ≡ None
    → at + length bytes ≤ length m.core.storage.bytes
bytes-inside m at bytes h = by (nat_lt 256 (length bytes)) (nat_lt (storage_size m) (at + length bytes)) refl h where
  by : (long outside : Bool) → nat_lt (storage_size m) (at + length bytes) ≡ outside
      → cond long (Some Refusal.PatchTooLong) (cond outside (Some Refusal.OutsideStorage) None) ≡ None
      → at + length bytes ≤ length m.core.storage.bytes
  by true outside e h = absurd (cc)
  by false true e h = absurd (cc)
  by false false e h = ltb-false (storage_size m) (at + length bytes) e

patch-is : (p : Patch) (m : Machine) → refusal_of_patch (storage_size m) p ≡ None → with_stores m m (patch_stores (profile_of m.core) p) ≡ after_patch m p
patch-is (Patch.Bytes at bytes) m h = all-stored (done bytes) bytes m m at (length bytes) refl refl (bytes-inside m at bytes h)
patch-is (Patch.Register n word) m h = refl
patch-is (Patch.StorageKey at storage_key) m h = refl
patch-is (Patch.FetchBit at bit) m h = by m.core.storage.fetch_protection where
  by : (z : Bool) → with_stores m m (cond z (block_store (at / block_size) (λ key. with_fetch_bit (key_of_block key) bit)) [])
      ≡ record m {
        core = cond z (core_with_key (at / block_size) (with_fetch_bit (key_of_block (get_or m.core.storage.keys (at / block_size) 0)) bit) m.core) m.core;
      }
  by true = refl
  by false = refl
patch-is (Patch.Psw psw) m h = refl

-- an event
ending-is : {A : Type 0} (kind : A → EventEnd) (row : Row A) (m : Machine) → after (ending_as kind row) m ≡ after row m
ending-is kind row m =
    ap (λ (made : Made EventEnd). with_stores m m made.stores) (run-bind row (λ made. done (record { ended = kind made.ended; stores = made.stores })) m)

pub events-are-rows : EventsAreRows
events-are-rows m Event.Cpu h = ending-is EventEnd.of_cpu (cpu_row (profile_of m.core)) m ∙ cpu-events-are-rows m h.permanent
events-are-rows m (Event.Channel unit) h = ending-is EventEnd.of_channel (channel_event_row (profile_of m.core) unit) m ∙ channel-event-is unit m h.permanent h.units
events-are-rows m Event.Tick h = ending-is EventEnd.of_tick tick_row m ∙ tick-is m h.permanent
events-are-rows m (Event.Key key) h = key-is key m h.units
events-are-rows m (Event.Patch patch) h = patch-is patch m h.accepted

-- the laws
pub event-keeps-others : EventKeepsOthers
event-keeps-others m e p h k = ap (λ x. value_there x p) (sym (events-are-rows m e h)) ∙ keeps-others EventEnd (row_in m e) m p k

same-row : (m n : Machine) (e : Event) → AreAlike m n → row_in m e ≡ row_in n e
same-row m n e a = ap (λ (p : Profile). event_row p e) (same-profile m n a)

pub event-decided : EventDecided
event-decided m n e a h = (readings.decided (row_in m e) m n h).0 ∙ ap (λ row. run row n) (same-row m n e a)

happens-alike : (m n : Machine) (e : Event) → AreAlike m n → Happens m e → Happens n e
happens-alike m n e a h = record {
  accepted = ap (λ size. refusal_of size e) (sym a.bytes) ∙ h.accepted;
  permanent = rw a.bytes at h.permanent;
  units = sym a.units ∙ h.units;
}

pub event-follows : EventFollows
event-follows m n e p a g made h =
    ap (λ x. value_there x p) (sym (events-are-rows m e g))
    ∙ follows EventEnd (row_in m e) m n p a (made ∙ ap (λ row. run row n) (sym (same-row m n e a))) h
    ∙ ap (λ row. value_there (after row n) p) (same-row m n e a)
    ∙ ap (λ x. value_there x p) (events-are-rows n e (happens-alike m n e a g))
