-- A channel event of a unit as a row does what its definition says, but for the end of loading.
use Rattle.std.proofs.Common.{ℕ, ◌+◌, ◌-◌, ◌≡◌, ◌≤◌, ◌<◌, ◌∙◌, ◌++◌, Bool, true, false, cond, nat_eq, Option, Some, None, List, [], ◌∷◌, refl, sym, ap, get_or}
use Rattle.std.proofs.Common.{set, length, take, replicate, arith, subst}
use Rattle.std.specs.Prelude.{is_some}
use Rattle.std.specs.Option.{option_map}
use Rattle.std.proofs.lemmas.List.{set-get_or}
use Rattle.s360_model.specs.Core.{Core}
use Rattle.s360_store.specs.declared.{place.Place.TheVariants.UnitState as state_of_unit, protection.Access.Access, protection.Checked.Checked}
use Rattle.s360_store.specs.Protection.{access}
use Rattle.s360_device.specs.declared.device.Begin.{Begin}
use Rattle.s360_channel.specs.declared.configured_unit.ConfiguredUnit.{ConfiguredUnit}
use Rattle.s360_channel.specs.declared.configured_unit.ConfiguredUnit.TheVariants.{Reader, Punch, Printer, Console, Tape0, Tape1}
use Rattle.s360_channel.specs.declared.{fetching.Fetched.Fetched, program.Program.Program, program.Progress.Progress, transfer.Transfer.Transfer}
use Rattle.s360_channel.specs.declared.{csw.Csw.Csw, unit_control.UnitControl.UnitControl, unit_state.UnitState.UnitState}
use Rattle.s360_channel.specs.ConfiguredUnits.{Units, address_of_unit, control_of, index_of, with_control_of}
use Rattle.s360_channel.specs.Execution.{DeviceView, Ending, Execution, Run, WordAtHand, access_of, after_input, after_output, channel_execution, command_ends}
use Rattle.s360_channel.specs.Execution.{command_with, conclusion_of}
use Rattle.s360_channel.specs.Execution.{core_with_run, execute_begun, execute_fetched, execute_output, goes_on_after, input_transfer, lowest_address}
use Rattle.s360_channel.specs.Execution.{output_transfer, run_of, stored_bytes}
use Rattle.s360_channel.specs.Execution.{unless_checked, word_at_hand}
use Rattle.s360_channel.specs.Programs.{next_ccw}
use Rattle.s360_channel.specs.Words.{reads_backward}
use Rattle.s360_channel.specs.Units.{idle_unit, program_of}
use Rattle.s360_machine.specs.ChannelEvents.{after_channel, after_execution, execution_at, execution_with, media_after}
use Rattle.s360_machine.specs.Machine.{Machine, Media}
use Rattle.s360_footprint.specs.ChannelReadings.{Fetching, begin_at, begun_read, next_ccw_read, output_of, output_read, output_with, word_met}
use Rattle.s360_footprint.specs.ChannelRows.{bytes_of_run, control_read, device_ending, device_read, device_seen, device_store, ending_stores, execution_stores}
use Rattle.s360_footprint.specs.ChannelRows.{met_row, program_row, run_stores, state_after, state_executed, state_store, unit_executed, unit_row, word_again}
use Rattle.s360_footprint.specs.ChannelRows.{zeros}
use Rattle.s360_footprint.specs.OperandReadings.{Profile, bytes_read, profile_of}
use Rattle.s360_footprint.specs.Readings.{Reading, bind, done, run}
use Rattle.s360_footprint.specs.Rows.{Made, Store, after, with_stores}
use Rattle.s360_footprint.specs.Values.{DeviceOf, device_of, with_device_of, with_value_there}
use Rattle.s360_footprint.proofs.ChannelReadingLemmas.{FoundIn, execution-is}
use Rattle.s360_footprint.proofs.OperandLemmas.{clear-inside}
use Rattle.s360_footprint.proofs.ReadingLemmas.{run-bind}
use Rattle.s360_footprint.proofs.SequenceLemmas.{stores-append}
use Rattle.s360_footprint.proofs.StoringRowLemmas.{all-stored}

-- a unit and its device
pub control-is : (u : ConfiguredUnit) (m : Machine) → run (control_read u) m ≡ control_of m.units u
control-is Reader m = refl
control-is Punch m = refl
control-is Printer m = refl
control-is Console m = refl
control-is Tape0 m = refl
control-is Tape1 m = refl

device-is : (u : ConfiguredUnit) (m : Machine) → run (device_read u) m ≡ device_of u m.media
device-is Reader m = refl
device-is Punch m = refl
device-is Printer m = refl
device-is Console m = refl
device-is Tape0 m = refl
device-is Tape1 m = refl

device-stored : (u : ConfiguredUnit) (d : Reading (DeviceOf u)) (before m : Machine)
    → with_stores before m (device_store u d ∷ []) ≡ record m { media = with_device_of u (run d before) m.media }
device-stored Reader d before m = refl
device-stored Punch d before m = refl
device-stored Printer d before m = refl
device-stored Console d before m = refl
device-stored Tape0 d before m = refl
device-stored Tape1 d before m = refl

pub control-stored : (u : ConfiguredUnit) (c : Reading UnitControl) (before m : Machine)
    → with_stores before m (record { place = state_of_unit (record { 0 = address_of_unit u }); value = c } ∷ [])
    ≡ record m { units = with_control_of m.units u (run c before) }
control-stored Reader c before m = refl
control-stored Punch c before m = refl
control-stored Printer c before m = refl
control-stored Console c before m = refl
control-stored Tape0 c before m = refl
control-stored Tape1 c before m = refl

media-is : (u : ConfiguredUnit) (e : Option Ending) (m : Media) → media_after u e m ≡ with_device_of u (device_ending u (device_of u m) e) m
media-is Reader e m = refl
media-is Punch e m = refl
media-is Printer e m = refl
media-is Console e m = refl
media-is Tape0 e m = refl
media-is Tape1 e m = refl

no-ending : (u : ConfiguredUnit) (m : Media) → with_device_of u (device_ending u (device_of u m) None) m ≡ m
no-ending Reader m = refl
no-ending Punch m = refl
no-ending Printer m = refl
no-ending Console m = refl
no-ending Tape0 m = refl
no-ending Tape1 m = refl

executed-at : (u : ConfiguredUnit) (m : Machine)
    → execution_at u m ≡ execution_with (device_seen u (device_of u m.media)) m.core.storage (control_of m.units u).state
executed-at Reader m = refl
executed-at Punch m = refl
executed-at Printer m = refl
executed-at Console m = refl
executed-at Tape0 m = refl
executed-at Tape1 m = refl

-- what a unit executes, by the word that is found and what its bytes meet
abbrev Found : Machine → DeviceView → UnitState → Fetched → Checked → Type 0
Found m d (UnitState.Active program) f met = FoundIn m d program f met
Found m d other f met = Unit {0}

abbrev FoundAt : ConfiguredUnit → Machine → Fetched → Checked → Type 0
FoundAt u m f met = Found m (device_seen u (device_of u m.media)) (control_of m.units u).state f met

state-is : (d : DeviceView) (s : UnitState) (f : Fetched) (met : Checked) (m : Machine) → Found m d s f met
    → run (state_executed bytes_read d f met s) m ≡ execution_with d m.core.storage s
state-is d (UnitState.Active program) f met m h = execution-is d program f met m h
state-is d UnitState.Idle f met m h = refl
state-is d (UnitState.Waiting csw) f met m h = refl

unit-read : (fetch : Fetching) (u : ConfiguredUnit) (f : Fetched) (met : Checked) (m : Machine)
    → run (unit_executed fetch u f met) m ≡ run (state_executed fetch (device_seen u (device_of u m.media)) f met (control_of m.units u).state) m
unit-read fetch u f met m =
    run-bind (control_read u) (λ (c : UnitControl). bind (device_read u) (λ d. state_executed fetch (device_seen u d) f met c.state)) m
    ∙ ap (λ (c : UnitControl). run (bind (device_read u) (λ d. state_executed fetch (device_seen u d) f met c.state)) m) (control-is u m)
    ∙ run-bind (device_read u) (λ d. state_executed fetch (device_seen u d) f met (control_of m.units u).state) m
    ∙ ap (λ d. run (state_executed fetch (device_seen u d) f met (control_of m.units u).state) m) (device-is u m)

unit-is : (u : ConfiguredUnit) (f : Fetched) (met : Checked) (m : Machine) → FoundAt u m f met → run (unit_executed bytes_read u f met) m ≡ execution_at u m
unit-is u f met m h =
    unit-read bytes_read u f met m ∙ state-is (device_seen u (device_of u m.media)) (control_of m.units u).state f met m h ∙ sym (executed-at u m)

-- the status word that waits then
unfoldable pub status-of : UnitState → Option Csw
status-of (UnitState.Waiting csw) = Some csw
status-of other = None

-- with other bytes of an output the same is stored, a command ends or does not, and the same status word waits
record SameStores (e f : Execution) : Type 0 where
  stores : e.stores ≡ f.stores
  ending : is_some e.ending ≡ is_some f.ending
  status : status-of e.state ≡ status-of f.state

same-itself : (e : Execution) → SameStores e e
same-itself e = record { stores = refl; ending = refl; status = refl }

same-output : (w : WordAtHand) (t : Transfer) (x y : List ℕ) → SameStores (after_output w t x) (after_output w t y)
unfolding status-of
same-output w t x y = by t.goes_on where
  by : (z : Bool) → SameStores
      (cond z (record { stores = None; state = goes_on_after w.program w.at (Progress.OutputChained w.command x); ending = None })
      (command_ends w (conclusion_of w t) x))
      (cond z (record { stores = None; state = goes_on_after w.program w.at (Progress.OutputChained w.command y); ending = None })
      (command_ends w (conclusion_of w t) y))
  by true = record { stores = refl; ending = refl; status = refl }
  by false = record { stores = refl; ending = refl; status = refl }

same-met : (w : WordAtHand) (limit : ℕ) (t : Transfer) (m : Machine) (met : Checked)
    → SameStores (run (output_read zeros w limit t met) m) (run (output_read bytes_read w limit t met) m)
same-met w limit t m Checked.Clear =
    rw (run-bind (bytes_read w.ccw.address t.count) (λ fetched. done (output_with w limit t fetched)) m) (same-output w t _ _)
same-met w limit t m Checked.Addressing = same-itself _
same-met w limit t m Checked.Protection = same-itself _

same-begun : (w : WordAtHand) (met : Checked) (begin : Begin) (m : Machine)
    → SameStores (run (begun_read zeros w met begin) m) (run (begun_read bytes_read w met begin) m)
same-begun w met (Begin.Input total) m = same-itself _
same-begun w met (Begin.Output limit) m = same-met w limit (output_of w limit) m met
same-begun w met Begin.Control m = same-itself _
same-begun w met (Begin.Refused sense) m = same-itself _
same-begun w met Begin.NotYet m = same-itself _

same-executed : (d : DeviceView) (f : Fetched) (met : Checked) (s : UnitState) (m : Machine)
    → SameStores (run (state_executed zeros d f met s) m) (run (state_executed bytes_read d f met s) m)
same-executed d (Fetched.Broken last) met (UnitState.Active program) m = same-itself _
same-executed d (Fetched.Whole at c) met (UnitState.Active program) m = same-begun (word_at_hand d program at c) met (begin_at d program c) m
same-executed d f met UnitState.Idle m = same-itself _
same-executed d f met (UnitState.Waiting csw) m = same-itself _

same-stores : (u : ConfiguredUnit) (f : Fetched) (met : Checked) (m : Machine) → FoundAt u m f met
    → SameStores (run (unit_executed zeros u f met) m) (execution_at u m)
same-stores u f met m h =
    rw (unit-read zeros u f met m, ← unit-is u f met m h, unit-read bytes_read u f met m)
    (same-executed (device_seen u (device_of u m.media)) f met (control_of m.units u).state m)

-- a run that is stored lies inside storage
run-inside : (m : Core) (key : ℕ) (lowest : Option ℕ) (bytes : List ℕ) (r : Run) → access_of m.storage key Access.Store (length bytes) lowest ≡ Checked.Clear
    → run_of lowest bytes ≡ Some r → r.at + length r.bytes ≤ length m.storage.bytes
run-inside m key None bytes r c e = absurd (cc)
run-inside m key (Some at) bytes r c e = by (nat_eq (length bytes) 0) c e where
  by : (z : Bool) → cond z Checked.Clear (access m.storage at (length bytes) Access.Store key) ≡ Checked.Clear
      → cond z None (Some (record { at = at; bytes = bytes })) ≡ Some r
      → r.at + length r.bytes ≤ length m.storage.bytes
  by true c e = absurd (cc)
  by false c e =
      let whole : Run = record { at = at; bytes = bytes }
      in let same : whole ≡ r = cc
      in subst (λ (x : Run). x.at + length x.bytes ≤ length m.storage.bytes) same (clear-inside m at (length bytes) Access.Store key c)

stored-inside : (m : Core) (w : WordAtHand) (x : Execution) (lowest : Option ℕ) (bytes : List ℕ) (r : Run) (met : Checked)
    → access_of m.storage w.program.key Access.Store (length bytes) lowest ≡ met
    → (unless_checked w met (record x { stores = run_of lowest bytes })).stores ≡ Some r → r.at + length r.bytes ≤ length m.storage.bytes
stored-inside m w x lowest bytes r Checked.Clear e h = run-inside m w.program.key lowest bytes r e h
stored-inside m w x lowest bytes r Checked.Addressing e h = absurd (cc)
stored-inside m w x lowest bytes r Checked.Protection e h = absurd (cc)

no-stores : (w : WordAtHand) (t : Transfer) (x : List ℕ) (met : Checked) → (unless_checked w met (after_output w t x)).stores ≡ None
no-stores w t x Checked.Clear = (same-output w t x x).stores ∙ by t.goes_on where
  by : (z : Bool) → (cond z (record { stores = None; state = goes_on_after w.program w.at (Progress.OutputChained w.command x); ending = None })
      (command_ends w (conclusion_of w t) x)).stores ≡ None
  by true = refl
  by false = refl
no-stores w t x Checked.Addressing = refl
no-stores w t x Checked.Protection = refl

begun-inside : (m : Core) (w : WordAtHand) (begin : Begin) (r : Run) → (execute_begun m.storage w begin).stores ≡ Some r
    → r.at + length r.bytes ≤ length m.storage.bytes
begun-inside m w (Begin.Input total) r h =
    let t : Transfer = input_transfer w.ccw (total - w.moved)
    in let bytes : List ℕ = stored_bytes w t.count
    in stored-inside m w (after_input w t) (lowest_address (reads_backward w.command) w.ccw.address (length bytes)) bytes r _ refl h
begun-inside m w (Begin.Output limit) r h =
    let t : Transfer = output_transfer w.ccw (limit - length w.gathered)
    in let none : (execute_output m.storage w limit).stores ≡ None = no-stores w t _ _
    in absurd (cc)
begun-inside m w Begin.Control r h = absurd (cc)
begun-inside m w (Begin.Refused sense) r h = absurd (cc)
begun-inside m w Begin.NotYet r h = absurd (cc)

fetched-inside : (m : Core) (d : DeviceView) (program : Program) (f : Fetched) (r : Run) → (execute_fetched d m.storage program f).stores ≡ Some r
    → r.at + length r.bytes ≤ length m.storage.bytes
fetched-inside m d program (Fetched.Broken last) r h = absurd (cc)
fetched-inside m d program (Fetched.Whole at c) r h = begun-inside m (word_at_hand d program at c) (d.begin (command_with program.progress c)) r h

executed-inside : (m : Core) (d : DeviceView) (s : UnitState) (r : Run) → (execution_with d m.storage s).stores ≡ Some r
    → r.at + length r.bytes ≤ length m.storage.bytes
unfolding channel_execution
executed-inside m d (UnitState.Active program) r h = fetched-inside m d program (next_ccw m.storage program) r h
executed-inside m d UnitState.Idle r h = absurd (cc)
executed-inside m d (UnitState.Waiting csw) r h = absurd (cc)

-- the stores, one kind after another, by what the unit executes
run-stored : (u : ConfiguredUnit) (executed : Reading Execution) (o : Option Run) (m : Machine) → run executed m ≡ execution_at u m
    → o ≡ (execution_at u m).stores
    → with_stores m m (run_stores executed o) ≡ record m { core = core_with_run o m.core }
run-stored u executed None m is e = refl
run-stored u executed (Some r) m is e =
    let bytes : Reading (List ℕ) = bind executed (λ x. done (bytes_of_run x.stores))
    in let stored : run bytes m ≡ r.bytes
    = run-bind executed (λ x. done (bytes_of_run x.stores)) m ∙ ap (λ (x : Execution). bytes_of_run x.stores) is ∙ ap bytes_of_run (sym e)
    in all-stored bytes r.bytes m m r.at (length r.bytes) stored refl
    (executed-inside m.core (device_seen u (device_of u m.media)) (control_of m.units u).state r (ap (λ (x : Execution). x.stores) (sym (executed-at u m))
    ∙ sym e))

ending-stored : (u : ConfiguredUnit) (executed : Reading Execution) (o e : Option Ending) (m x : Machine) → run executed m ≡ execution_at u m
    → is_some o ≡ is_some e → e ≡ (execution_at u m).ending → x.media ≡ m.media
    → with_stores m x (ending_stores u executed o) ≡ record x { media = media_after u e m.media }
ending-stored u executed None None m x is s e same = ap (λ k. record x { media = k }) (same ∙ sym (media-is u None m.media ∙ no-ending u m.media))
ending-stored u executed None (Some y) m x is s e same = absurd (cc)
ending-stored u executed (Some o) None m x is s e same = absurd (cc)
ending-stored u executed (Some o) (Some y) m x is s e same =
    let after : Reading (DeviceOf u) = bind (device_read u) (λ d. bind executed (λ k. done (device_ending u d k.ending)))
    in let made : run after m ≡ device_ending u (device_of u m.media) (Some y)
    = run-bind (device_read u) (λ d. bind executed (λ k. done (device_ending u d k.ending))) m
    ∙ run-bind executed (λ k. done (device_ending u (run (device_read u) m) k.ending)) m
    ∙ ap (λ d. device_ending u d (run executed m).ending) (device-is u m)
    ∙ ap (device_ending u (device_of u m.media)) (ap (λ (k : Execution). k.ending) is ∙ sym e)
    in device-stored u after m x
    ∙ ap (λ d. record x { media = with_device_of u d x.media }) made
    ∙ ap (λ k. record x { media = with_device_of u (device_ending u (device_of u m.media) (Some y)) k }) same
    ∙ ap (λ k. record x { media = k }) (sym (media-is u (Some y) m.media))

again-is : (m : Machine) (d : DeviceView) (s : UnitState) (f : Fetched) (met : Checked) → Found m d s f met → run (word_again (profile_of m.core) s f) m ≡ f
again-is m d (UnitState.Active program) f met h = h.0
again-is m d UnitState.Idle f met h = refl
again-is m d (UnitState.Waiting csw) f met h = refl

state-after-is : (u : ConfiguredUnit) (f : Fetched) (met : Checked) (m : Machine) → FoundAt u m f met
    → run (state_after (profile_of m.core) u f met) m ≡ record (control_of m.units u) { state = (execution_at u m).state }
state-after-is u f met m h =
    let c : UnitControl = control_of m.units u
    in run-bind (control_read u)
    (λ (c : UnitControl). bind (word_again (profile_of m.core) c.state f)
    (λ again. bind (unit_executed bytes_read u again met) (λ e. done (record c { state = e.state })))) m
    ∙ ap (λ (c : UnitControl). run
    (bind (word_again (profile_of m.core) c.state f) (λ again. bind (unit_executed bytes_read u again met) (λ e. done (record c { state = e.state })))) m)
    (control-is u m)
    ∙ run-bind (word_again (profile_of m.core) c.state f) (λ again. bind (unit_executed bytes_read u again met) (λ e. done (record c { state = e.state }))) m
    ∙ ap (λ again. run (bind (unit_executed bytes_read u again met) (λ e. done (record c { state = e.state }))) m)
    (again-is m (device_seen u (device_of u m.media)) c.state f met h)
    ∙ run-bind (unit_executed bytes_read u f met) (λ e. done (record c { state = e.state })) m
    ∙ ap (λ (e : Execution). record c { state = e.state }) (unit-is u f met m h)

execution-stored : (u : ConfiguredUnit) (f : Fetched) (met : Checked) (e : Execution) (m : Machine) → FoundAt u m f met → SameStores e (execution_at u m)
    → with_stores m m (execution_stores (profile_of m.core) u f met e) ≡ after_channel u m
execution-stored u f met e m h same =
    let x : Execution = execution_at u m
    in let executed : Reading Execution = unit_executed bytes_read u f met
    in let is : run executed m ≡ x = unit-is u f met m h
    in let last : List Store = state_store u (state_after (profile_of m.core) u f met)
    in let stored : Machine = record m { core = core_with_run e.stores m.core }
    in stores-append m m (run_stores executed e.stores) (ending_stores u executed e.ending ++ last)
    ∙ ap (λ k. with_stores m k (ending_stores u executed e.ending ++ last)) (run-stored u executed e.stores m is same.stores)
    ∙ stores-append m stored (ending_stores u executed e.ending) last
    ∙ ap (λ k. with_stores m k last) (ending-stored u executed e.ending x.ending m stored is same.ending refl refl)
    ∙ control-stored u (state_after (profile_of m.core) u f met) m (record stored { media = media_after u x.ending m.media })
    ∙ ap (λ c. record m { core = core_with_run e.stores m.core; units = with_control_of m.units u c; media = media_after u x.ending m.media })
    (state-after-is u f met m h)
    ∙ ap (λ o. record m {
      core = core_with_run o m.core;
      units = with_control_of m.units u (record (control_of m.units u) { state = x.state });
      media = media_after u x.ending m.media;
    }) same.stores

-- a unit that executes no program
idle-is : (u : ConfiguredUnit) (s : UnitState) (m : Machine) → (control_of m.units u).state ≡ s → program_of s ≡ None → m ≡ after_channel u m
idle-is u s m e h =
    let x : Execution = record { stores = None; state = s; ending = None }
    in let is : execution_at u m ≡ x = executed-at u m ∙ ap (execution_with (device_seen u (device_of u m.media)) m.core.storage) e ∙ none s h
    in let control : record (control_of m.units u) { state = s } ≡ control_of m.units u = ap (λ t. record (control_of m.units u) { state = t }) (sym e)
    in sym (ap (λ y. after_execution y u m) is
    ∙ ap (λ c. record m { units = with_control_of m.units u c; media = media_after u None m.media }) control
    ∙ ap (λ us. record m { units = us; media = media_after u None m.media }) (set-get_or m.units (index_of u) idle_unit)
    ∙ ap (λ k. record m { media = k }) (media-is u None m.media ∙ no-ending u m.media)) where
      none : (s : UnitState) → program_of s ≡ None
          → execution_with (device_seen u (device_of u m.media)) m.core.storage s ≡ record { stores = None; state = s; ending = None }
      none (UnitState.Active p) h = absurd (cc)
      none UnitState.Idle h = refl
      none (UnitState.Waiting csw) h = refl

met-row-is : (u : ConfiguredUnit) (f : Fetched) (met : Checked) (m : Machine) → FoundAt u m f met
    → after (met_row (profile_of m.core) u f met) m ≡ after_channel u m
met-row-is u f met m h =
    let shape : Reading Execution = unit_executed zeros u f met
    in ap (λ (made : Made (Option UnitState)). with_stores m m made.stores)
    (run-bind shape (λ e. done (record { ended = Some e.state; stores = execution_stores (profile_of m.core) u f met e })) m)
    ∙ execution-stored u f met (run shape m) m h (same-stores u f met m h)

found-by : (u : ConfiguredUnit) (program : Program) (s : UnitState) (m : Machine) (d : DeviceView) (f : Fetched) (met : Checked) → program_of s ≡ Some program
    → FoundIn m d program f met → Found m d s f met
found-by u program (UnitState.Active other) m d f met e h = let same : program ≡ other = cc in subst (λ p. FoundIn m d p f met) same h
found-by u program UnitState.Idle m d f met e h = tt
found-by u program (UnitState.Waiting csw) m d f met e h = tt

-- a program, by the word that is found and what its bytes meet
program-row-made : (u : ConfiguredUnit) (program : Program) (m : Machine)
    → run (program_row (profile_of m.core) u (Some program)) m
    ≡ run (met_row (profile_of m.core) u (run (next_ccw_read (profile_of m.core) program) m)
    (run (word_met (profile_of m.core) (device_seen u (device_of u m.media)) program (run (next_ccw_read (profile_of m.core) program) m)) m)) m
program-row-made u program m =
    let p : Profile = profile_of m.core
    in let d : DeviceView = device_seen u (device_of u m.media)
    in let f : Fetched = run (next_ccw_read p program) m
    in run-bind (next_ccw_read p program) (λ f. bind (device_read u) (λ d. bind (word_met p (device_seen u d) program f) (λ met. met_row p u f met))) m
    ∙ run-bind (device_read u) (λ d. bind (word_met p (device_seen u d) program f) (λ met. met_row p u f met)) m
    ∙ ap (λ k. run (bind (word_met p (device_seen u k) program f) (λ met. met_row p u f met)) m) (device-is u m)
    ∙ run-bind (word_met p d program f) (λ met. met_row p u f met) m

program-is : (u : ConfiguredUnit) (o : Option Program) (m : Machine) → program_of (control_of m.units u).state ≡ o
    → after (program_row (profile_of m.core) u o) m ≡ after_channel u m
program-is u None m e = idle-is u (control_of m.units u).state m refl e
program-is u (Some program) m e =
    let p : Profile = profile_of m.core
    in let d : DeviceView = device_seen u (device_of u m.media)
    in let f : Fetched = run (next_ccw_read p program) m
    in let met : Checked = run (word_met p d program f) m
    in ap (λ (made : Made (Option UnitState)). with_stores m m made.stores) (program-row-made u program m)
    ∙ met-row-is u f met m (found-by u program (control_of m.units u).state m d f met e (refl, refl))

pub unit-row-is : (u : ConfiguredUnit) (m : Machine) → after (unit_row (profile_of m.core) u) m ≡ after_channel u m
unit-row-is u m =
    ap (λ (made : Made (Option UnitState)). with_stores m m made.stores)
    (run-bind (control_read u) (λ (c : UnitControl). program_row (profile_of m.core) u (program_of c.state)) m)
    ∙ ap (λ (c : UnitControl). after (program_row (profile_of m.core) u (program_of c.state)) m) (control-is u m)
    ∙ program-is u (program_of (control_of m.units u).state) m refl

-- the status word with which the program of a unit has ended
met-row-ends : (u : ConfiguredUnit) (f : Fetched) (met : Checked) (m : Machine) → FoundAt u m f met
    → option_map status-of (run (met_row (profile_of m.core) u f met) m).ended ≡ Some (status-of (execution_at u m).state)
met-row-ends u f met m h =
    let shape : Reading Execution = unit_executed zeros u f met
    in ap (λ (made : Made (Option UnitState)). option_map status-of made.ended)
    (run-bind shape (λ e. done (record { ended = Some e.state; stores = execution_stores (profile_of m.core) u f met e })) m)
    ∙ ap (λ (c : Option Csw). Some c) (same-stores u f met m h).status

program-ends : (u : ConfiguredUnit) (o : Option Program) (m : Machine) → program_of (control_of m.units u).state ≡ o
    → option_map status-of (run (program_row (profile_of m.core) u o) m).ended ≡ option_map (λ p. status-of (execution_at u m).state) o
program-ends u None m e = refl
program-ends u (Some program) m e =
    let p : Profile = profile_of m.core
    in let d : DeviceView = device_seen u (device_of u m.media)
    in let f : Fetched = run (next_ccw_read p program) m
    in let met : Checked = run (word_met p d program f) m
    in ap (λ (made : Made (Option UnitState)). option_map status-of made.ended) (program-row-made u program m)
    ∙ met-row-ends u f met m (found-by u program (control_of m.units u).state m d f met e (refl, refl))

pub unit-row-ends : (u : ConfiguredUnit) (m : Machine)
    → option_map status-of (run (unit_row (profile_of m.core) u) m).ended
    ≡ option_map (λ p. status-of (execution_at u m).state) (program_of (control_of m.units u).state)
unit-row-ends u m =
    ap (λ (made : Made (Option UnitState)). option_map status-of made.ended)
    (run-bind (control_read u) (λ (c : UnitControl). program_row (profile_of m.core) u (program_of c.state)) m)
    ∙ ap (λ (c : UnitControl). option_map status-of (run (program_row (profile_of m.core) u (program_of c.state)) m).ended) (control-is u m)
    ∙ program-ends u (program_of (control_of m.units u).state) m refl
