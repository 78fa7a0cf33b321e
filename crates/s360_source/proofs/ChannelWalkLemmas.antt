-- A unit's program is walked over as its row is, with the end of loading.
use Rattle.std.proofs.Common.{ℕ, ◌+◌, ◌≡◌, ◌∙◌, ◌++◌, Bool, cond, Option, Some, None, List, [], ◌∷◌, refl, sym, ap, subst, arith, length, append_assoc, zero, suc}
use Rattle.std.proofs.Common.{true, false}
use Rattle.std.specs.Prelude.{is_some, flat_map}
use Rattle.std.specs.Option.{option_map}
use Rattle.s360_model.specs.Psw.{current_psw}
use Rattle.s360_store.specs.declared.place.Place.{Place}
use Rattle.s360_store.specs.declared.protection.Checked.{Checked}
use Rattle.s360_store.specs.declared.place.Place.TheVariants.{Psw, Run}
use Rattle.s360_store.specs.Spans.{byte_places}
use Rattle.s360_device.specs.declared.device.Begin.{Begin}
use Rattle.s360_channel.specs.declared.configured_unit.ConfiguredUnit.{ConfiguredUnit}
use Rattle.s360_channel.specs.declared.configured_unit.ConfiguredUnit.TheVariants.{Reader, Punch, Printer, Console, Tape0, Tape1}
use Rattle.s360_channel.specs.declared.{csw.Csw.Csw, fetching.Fetched.Fetched, program.Program.Program, unit_control.UnitControl.UnitControl}
use Rattle.s360_channel.specs.declared.{unit_state.UnitState.UnitState}
use Rattle.s360_channel.specs.ConfiguredUnits.{control_of}
use Rattle.s360_channel.specs.Differences.{state_place}
use Rattle.s360_channel.specs.Execution.{DeviceView, Ending, Execution, WordAtHand, channel_execution, word_at_hand, Run as StoredRun}
use Rattle.s360_channel.specs.Units.{program_of}
use Rattle.s360_channel.specs.Programs.{loading_program}
use Rattle.s360_machine.specs.ChannelEvents.{execution_at, execution_with}
use Rattle.s360_machine.specs.Differences.{media_place}
use Rattle.s360_machine.specs.Machine.{Machine}
use Rattle.s360_machine.specs.declared.run_state.RunState.{RunState}
use Rattle.s360_footprint.specs.ChannelReadings.{Fetching, begin_at, begun_read, next_ccw_read, word_met, word_read}
use Rattle.s360_footprint.specs.ChannelRows.{bytes_of_run, control_read, device_ending, device_read, device_seen, device_store, ending_stores, execution_stores}
use Rattle.s360_footprint.specs.ChannelRows.{met_row, program_row, run_stores, state_after, state_executed, state_store, unit_executed, unit_row, word_again}
use Rattle.s360_footprint.specs.ChannelRows.{zeros}
use Rattle.s360_footprint.specs.OperandReadings.{Profile, bytes_read, profile_of, number_read}
use Rattle.s360_footprint.specs.Readings.{Reading, bind, done, places_read, run, value_read}
use Rattle.s360_footprint.specs.Rows.{Made, Row, Store, after_store, after_stores, value_after}
use Rattle.s360_footprint.specs.Values.{DeviceOf, device_of}
use Rattle.s360_footprint.proofs.ChannelRowLemmas.{control-is, status-of, unit-row-ends}
use Rattle.s360_footprint.proofs.ReadingLemmas.{places-bind, run-bind}
use Rattle.s360_footprint.specs.LoadingRows.{ChannelEnd, address_row, address_stores, channel_row, ends_loading, initial_stores, loads}
use Rattle.s360_footprint.specs.Sequences.{made_through, sequence, stores_through, through}
use Rattle.s360_footprint.specs.StoringRows.{byte_stores}
use Rattle.s360_source.specs.declared.{channel_moves.Extent.Extent, channel_word.ChannelWord.ChannelWord, question.Question.Question}
use Rattle.s360_source.specs.Footprints.{IsWordIn}
use Rattle.s360_source.specs.Channels.{IsChannelWord, IsExtentOf, status_of, word_deciders, word_sources, word_stores, channel_walk, followed_back, word_walk}
use Rattle.s360_source.specs.Parts.{places_of_part}
use Rattle.s360_source.specs.Walks.{sources_by, walked, with_bytes, with_decided, with_store, with_stores_of}
use Rattle.s360_source.proofs.ReadingPlaces.{mapped}
use Rattle.s360_source.proofs.WalkLemmas.{bytes-walked, decided_both, stores-both}
use Rattle.s360_source.proofs.SequenceWalkLemmas.{Reads, mapped-reads, number-reads, sequence-made, sequence-stored, sequence-walked, through-places}

-- a unit's device, and what it executes
abbrev pub view_in : ConfiguredUnit → Machine → DeviceView
view_in u m = device_seen u (device_of u m.media)

record UnitFacts (u : ConfiguredUnit) (m : Machine) : Type 0 where
  device : run (device_read u) m ≡ device_of u m.media
  place : places_read (device_read u) m ≡ media_place u ∷ []
  stored : (q : Question) (d : Reading (DeviceOf u)) (found : List Place)
      → with_stores_of q m (device_store u d ∷ []) found ≡ with_store q (media_place u) (places_read d m) found
  kept : (d : Reading (DeviceOf u)) → after_stores (device_store u d ∷ []) Run (value_read Run) ≡ value_read Run
  execution : execution_at u m ≡ execution_with (view_in u m) m.core.storage (control_of m.units u).state

unit-facts : (u : ConfiguredUnit) (m : Machine) → UnitFacts u m
unit-facts Reader m = record { device = refl; place = refl; stored = λ q d found. refl; kept = λ d. refl; execution = refl }
unit-facts Punch m = record { device = refl; place = refl; stored = λ q d found. refl; kept = λ d. refl; execution = refl }
unit-facts Printer m = record { device = refl; place = refl; stored = λ q d found. refl; kept = λ d. refl; execution = refl }
unit-facts Console m = record { device = refl; place = refl; stored = λ q d found. refl; kept = λ d. refl; execution = refl }
unit-facts Tape0 m = record { device = refl; place = refl; stored = λ q d found. refl; kept = λ d. refl; execution = refl }
unit-facts Tape1 m = record { device = refl; place = refl; stored = λ q d found. refl; kept = λ d. refl; execution = refl }

-- a program is executed: the word that is found, what its bytes meet, and what it does, with zeros for what an output fetches
abbrev pub IsActive : Machine → ConfiguredUnit → Program → Type 0
IsActive m u program = (control_of m.units u).state ≡ UnitState.Active program

abbrev pub word_in : Program → Machine → Fetched
word_in program m = run (next_ccw_read (profile_of m.core) program) m

abbrev pub met_in : ConfiguredUnit → Program → Machine → Checked
met_in u program m = run (word_met (profile_of m.core) (view_in u m) program (word_in program m)) m

abbrev pub done_in : ConfiguredUnit → Program → Machine → Execution
done_in u program m = run (word_read zeros (view_in u m) program (word_in program m) (met_in u program m)) m

abbrev pub stores_in : ConfiguredUnit → Program → Machine → List Store
stores_in u program m = execution_stores (profile_of m.core) u (word_in program m) (met_in u program m) (done_in u program m)

active-executed : (fetch : Fetching) (u : ConfiguredUnit) (program : Program) (f : Fetched) (met : Checked) (m : Machine) → IsActive m u program
    → (run (unit_executed fetch u f met) m ≡ run (word_read fetch (view_in u m) program f met) m)
    × (places_read (unit_executed fetch u f met) m ≡ state_place u ∷ (media_place u ∷ places_read (word_read fetch (view_in u m) program f met) m))
active-executed fetch u program f met m e =
    let read : UnitState → DeviceOf u → Reading Execution = λ s d. state_executed fetch (device_seen u d) f met s
    in let facts : UnitFacts u m = unit-facts u m
    in (
      run-bind (control_read u) (λ (c : UnitControl). bind (device_read u) (read c.state)) m
          ∙ ap (λ (c : UnitControl). run (bind (device_read u) (read c.state)) m) (control-is u m)
          ∙ ap (λ s. run (bind (device_read u) (read s)) m) e
          ∙ run-bind (device_read u) (read (UnitState.Active program)) m
          ∙ ap (λ d. run (read (UnitState.Active program) d) m) facts.device,
      ap (λ (c : UnitControl). state_place u ∷ places_read (bind (device_read u) (read c.state)) m) (control-is u m)
          ∙ ap (λ s. state_place u ∷ places_read (bind (device_read u) (read s)) m) e
          ∙ ap (λ ps. state_place u ∷ ps)
          (places-bind (device_read u) (read (UnitState.Active program)) m
          ∙ ap (λ ps. ps ++ places_read (read (UnitState.Active program) (run (device_read u) m)) m) facts.place
          ∙ ap (λ d. media_place u ∷ places_read (read (UnitState.Active program) d) m) facts.device),
    )

zeros-begun : (w : WordAtHand) (met : Checked) (begin : Begin) (m : Machine) → places_read (begun_read zeros w met begin) m ≡ []
zeros-begun w met (Begin.Input total) m = refl
zeros-begun w Checked.Clear (Begin.Output limit) m = refl
zeros-begun w Checked.Addressing (Begin.Output limit) m = refl
zeros-begun w Checked.Protection (Begin.Output limit) m = refl
zeros-begun w met Begin.Control m = refl
zeros-begun w met (Begin.Refused sense) m = refl
zeros-begun w met Begin.NotYet m = refl

zeros-read : (d : DeviceView) (program : Program) (f : Fetched) (met : Checked) (m : Machine) → places_read (word_read zeros d program f met) m ≡ []
zeros-read d program (Fetched.Broken last) met m = refl
zeros-read d program (Fetched.Whole at c) met m = zeros-begun (word_at_hand d program at c) met (begin_at d program c) m

-- what the row makes, and what it reads
pub unit-made : (u : ConfiguredUnit) (program : Program) (m : Machine) → IsActive m u program
    → run (unit_row (profile_of m.core) u) m ≡ record { ended = Some (done_in u program m).state; stores = stores_in u program m }
unit-made u program m e =
    let p : Profile = profile_of m.core
    in let f : Fetched = word_in program m
    in let met : Checked = met_in u program m
    in run-bind (control_read u) (λ (c : UnitControl). program_row p u (program_of c.state)) m
    ∙ ap (λ (c : UnitControl). run (program_row p u (program_of c.state)) m) (control-is u m)
    ∙ ap (λ s. run (program_row p u (program_of s)) m) e
    ∙ run-bind (next_ccw_read p program) (λ f. bind (device_read u) (λ d. bind (word_met p (device_seen u d) program f) (λ met. met_row p u f met))) m
    ∙ run-bind (device_read u) (λ d. bind (word_met p (device_seen u d) program f) (λ met. met_row p u f met)) m
    ∙ ap (λ k. run (bind (word_met p (device_seen u k) program f) (λ met. met_row p u f met)) m) (unit-facts u m).device
    ∙ run-bind (word_met p (view_in u m) program f) (λ met. met_row p u f met) m
    ∙ run-bind (unit_executed zeros u f met) (λ x. done (record { ended = Some x.state; stores = execution_stores p u f met x })) m
    ∙ ap (λ (x : Execution). record { ended = Some x.state; stores = execution_stores p u f met x }) (active-executed zeros u program f met m e).0

unit-places : (u : ConfiguredUnit) (program : Program) (m : Machine) → IsActive m u program
    → places_read (unit_row (profile_of m.core) u) m
    ≡ state_place u ∷ (places_read (next_ccw_read (profile_of m.core) program) m
    ++ (media_place u ∷ (places_read (word_met (profile_of m.core) (view_in u m) program (word_in program m)) m ++ (state_place u ∷ (media_place u ∷ [])))))
unit-places u program m e =
    let p : Profile = profile_of m.core
    in let f : Fetched = word_in program m
    in let met : Checked = met_in u program m
    in let tail : DeviceOf u → Reading (Made (Option UnitState)) = λ d. bind (word_met p (device_seen u d) program f) (λ met. met_row p u f met)
    in let last : places_read (met_row p u f met) m ≡ state_place u ∷ (media_place u ∷ [])
    = mapped (unit_executed zeros u f met) _ m
    ∙ (active-executed zeros u program f met m e).1
    ∙ ap (λ ps. state_place u ∷ (media_place u ∷ ps)) (zeros-read (view_in u m) program f met m)
    in let after : places_read (bind (device_read u) tail) m
    ≡ media_place u ∷ (places_read (word_met p (view_in u m) program f) m ++ (state_place u ∷ (media_place u ∷ [])))
    = places-bind (device_read u) tail m
    ∙ ap (λ ps. ps ++ places_read (tail (run (device_read u) m)) m) (unit-facts u m).place
    ∙ ap (λ d. media_place u ∷ places_read (tail d) m) (unit-facts u m).device
    ∙ ap (λ ps. media_place u ∷ ps) (places-bind (word_met p (view_in u m) program f) (λ met. met_row p u f met) m)
    ∙ ap (λ ps. media_place u ∷ (places_read (word_met p (view_in u m) program f) m ++ ps)) last
    in places-bind (control_read u) (λ (c : UnitControl). program_row p u (program_of c.state)) m
    ∙ ap (λ (c : UnitControl). state_place u ∷ places_read (program_row p u (program_of c.state)) m) (control-is u m)
    ∙ ap (λ s. state_place u ∷ places_read (program_row p u (program_of s)) m) e
    ∙ ap (λ ps. state_place u ∷ ps)
    (places-bind (next_ccw_read p program) (λ f. bind (device_read u) (λ d. bind (word_met p (device_seen u d) program f) (λ met. met_row p u f met))) m
    ∙ ap (λ ps. places_read (next_ccw_read p program) m ++ ps) after)

-- the stores, one kind after another
run-walked : (q : Question) (executed : Reading Execution) (o : Option StoredRun) (x : Extent) (m : Machine) (found : List Place) → IsExtentOf o x
    → with_stores_of q m (run_stores executed o) found ≡ with_bytes q x.address x.count (places_read executed m) found
run-walked q executed None x m found h = sym (ap (λ n. with_bytes q x.address n (places_read executed m) found) h)
run-walked q executed (Some r) x m found h =
    let bytes : Reading (List ℕ) = bind executed (λ e. done (bytes_of_run e.stores))
    in let all : 0 + length r.bytes ≡ length r.bytes = omega arith
    in bytes-walked q bytes m r.at 0 (length r.bytes) found
    ∙ ap (λ n. with_bytes q r.at n (places_read bytes m) found) all
    ∙ ap (λ ps. with_bytes q r.at (length r.bytes) ps found) (mapped executed (λ e. bytes_of_run e.stores) m)
    ∙ ap (λ n. with_bytes q r.at n (places_read executed m) found) (sym h.1)
    ∙ ap (λ a. with_bytes q a x.count (places_read executed m) found) (sym h.0)

abbrev with_ending : Question → ConfiguredUnit → Bool → List Place → List Place → List Place
with_ending q u z ps found = cond z (with_store q (media_place u) (media_place u ∷ ps) found) found

ending-walked : (q : Question) (u : ConfiguredUnit) (executed : Reading Execution) (o : Option Ending) (z : Bool) (m : Machine) (found : List Place)
    → z ≡ is_some o → with_stores_of q m (ending_stores u executed o) found ≡ with_ending q u z (places_read executed m) found
ending-walked q u executed None z m found e = sym (ap (λ b. with_ending q u b (places_read executed m) found) e)
ending-walked q u executed (Some y) z m found e =
    let after : (d : DeviceOf u) → Reading (DeviceOf u) = λ d. bind executed (λ k. done (device_ending u d k.ending))
    in (unit-facts u m).stored q (bind (device_read u) after) found
    ∙ ap (λ ps. with_store q (media_place u) ps found)
    (places-bind (device_read u) after m
    ∙ ap (λ ps. ps ++ places_read (after (run (device_read u) m)) m) (unit-facts u m).place
    ∙ ap (λ ps. media_place u ∷ ps) (mapped executed _ m))
    ∙ sym (ap (λ b. with_ending q u b (places_read executed m) found) e)

state-places : (u : ConfiguredUnit) (program : Program) (m : Machine) (met : Checked) → IsActive m u program
    → places_read (state_after (profile_of m.core) u (word_in program m) met) m
    ≡ state_place u ∷ (places_read (next_ccw_read (profile_of m.core) program) m ++ places_read (unit_executed bytes_read u (word_in program m) met) m)
state-places u program m met e =
    let p : Profile = profile_of m.core
    in let f : Fetched = word_in program m
    in let last : UnitControl → Fetched → Reading UnitControl
    = λ c again. bind (unit_executed bytes_read u again met) (λ x. done (record c { state = x.state }))
    in let control : UnitControl = control_of m.units u
    in places-bind (control_read u) (λ (c : UnitControl). bind (word_again p c.state f) (last c)) m
    ∙ ap (λ (c : UnitControl). state_place u ∷ places_read (bind (word_again p c.state f) (last c)) m) (control-is u m)
    ∙ ap (λ s. state_place u ∷ places_read (bind (word_again p s f) (last control)) m) e
    ∙ ap (λ ps. state_place u ∷ ps)
    (places-bind (next_ccw_read p program) (last control) m
    ∙ ap (λ ps. places_read (next_ccw_read p program) m ++ ps) (mapped (unit_executed bytes_read u f met) _ m))

execution-walked : (q : Question) (x : ChannelWord) (program : Program) (m : Machine) (found : List Place) → IsChannelWord program m x
    → with_stores_of q m (stores_in x.unit program m) found ≡ word_stores q x found
execution-walked q x program m found h =
    let u : ConfiguredUnit = x.unit
    in let f : Fetched = word_in program m
    in let met : Checked = met_in u program m
    in let does : Execution = done_in u program m
    in let executed : Reading Execution = unit_executed bytes_read u f met
    in let runs : List Store = run_stores executed does.stores
    in let ending : List Store = ending_stores u executed does.ending
    in let state : List Store = state_store u (state_after (profile_of m.core) u f met)
    in let words : List Place = places_read (next_ccw_read (profile_of m.core) program) m
    in let made : List Place → List Place → List Place
    = λ ps ws. with_store q (state_place u) (state_place u ∷ ws) (with_ending q u x.moved.ends ps
    (with_bytes q x.moved.stored.address x.moved.stored.count ps found))
    in stores-both q m runs (ending ++ state) found
    ∙ stores-both q m ending state (with_stores_of q m runs found)
    ∙ ap (λ y. with_stores_of q m state y)
    (ending-walked q u executed does.ending x.moved.ends m (with_stores_of q m runs found) h.executed.moved.ends
    ∙ ap (λ y. with_ending q u x.moved.ends (places_read executed m) y) (run-walked q executed does.stores x.moved.stored m found h.executed.moved.stored))
    ∙ ap (λ ps. with_store q (state_place u) ps (with_ending q u x.moved.ends (places_read executed m)
    (with_bytes q x.moved.stored.address x.moved.stored.count (places_read executed m) found))) (state-places u program m met h.active)
    ∙ ap (λ ps. made ps (words ++ ps))
    ((active-executed bytes_read u program f met m h.active).1 ∙ ap (λ ps. state_place u ∷ (media_place u ∷ ps)) (sym h.executed.moved.fetched))
    ∙ ap (made (word_sources x))
    (ap (λ ps. ps ++ word_sources x) (sym h.words) ∙ append_assoc (places_of_part x.word) (places_of_part x.target) (word_sources x))

-- the row, with how the unit stands looked at first
pub unit-walked : (q : Question) (x : ChannelWord) (program : Program) (m : Machine) (found : List Place) → IsChannelWord program m x
    → walked q (unit_row (profile_of m.core) x.unit) m found
    ≡ word_stores q x (with_decided q (word_deciders x) (with_decided q (state_place x.unit ∷ []) found))
unit-walked q x program m found h =
    let u : ConfiguredUnit = x.unit
    in let keys : List Place = places_read (word_met (profile_of m.core) (view_in u m) program (word_in program m)) m
    in let rest : List Place → List Place = λ ks. media_place u ∷ (ks ++ (state_place u ∷ (media_place u ∷ [])))
    in let looked : places_read (unit_row (profile_of m.core) u) m ≡ state_place u ∷ word_deciders x
    = unit-places u program m h.active
    ∙ ap (λ ks. state_place u ∷ (places_read (next_ccw_read (profile_of m.core) program) m ++ rest ks)) (sym h.executed.moved.keys)
    ∙ ap (λ ws. state_place u ∷ (ws ++ rest (places_of_part x.moved.keys))) (sym h.words)
    ∙ ap (λ ps. state_place u ∷ ps) (append_assoc (places_of_part x.word) (places_of_part x.target) (rest (places_of_part x.moved.keys)))
    in ap (λ (made : Made (Option UnitState)). with_stores_of q m made.stores (with_decided q (places_read (unit_row (profile_of m.core) u) m) found))
    (unit-made u program m h.active)
    ∙ ap (λ ps. with_stores_of q m (stores_in u program m) (with_decided q ps found)) looked
    ∙ execution-walked q x program m (with_decided q (state_place u ∷ word_deciders x) found) h
    ∙ ap (word_stores q x) (sym (decided_both q (state_place u ∷ []) (word_deciders x) found))

-- the status with which the program ends
status-is : (s : UnitState) → status_of s ≡ status-of s
unfolding status-of
status-is UnitState.Idle = refl
status-is (UnitState.Active p) = refl
status-is (UnitState.Waiting csw) = refl

one-status : (a b : Option Csw) → Some a ≡ Some b → a ≡ b
one-status a b e = cc

pub unit-ends : (u : ConfiguredUnit) (program : Program) (m : Machine) → IsActive m u program
    → status_of (done_in u program m).state ≡ status_of (channel_execution (view_in u m) m.core.storage program).state
unit-ends u program m e =
    let x : Execution = execution_at u m
    in let ended : Some (status-of (done_in u program m).state) ≡ Some (status-of x.state)
    = sym (ap (λ (made : Made (Option UnitState)). option_map status-of made.ended) (unit-made u program m e))
    ∙ unit-row-ends u m
    ∙ ap (λ s. option_map (λ p. status-of x.state) (program_of s)) e
    in status-is (done_in u program m).state
    ∙ one-status (status-of (done_in u program m).state) (status-of x.state) ended
    ∙ sym (status-is x.state)
    ∙ ap (λ (y : Execution). status_of y.state) ((unit-facts u m).execution ∙ ap (execution_with (view_in u m) m.core.storage) e)

-- the stores of a word leave the run state
kept-both : (ss ts : List Store) (r : Reading RunState) → after_stores (ss ++ ts) Run r ≡ after_stores ts Run (after_stores ss Run r)
kept-both [] ts r = refl
kept-both (s ∷ ss) ts r = kept-both ss ts (after_store s.place Run s.value r)

kept-bytes : (address : ℕ) (bytes : Reading (List ℕ)) (i n : ℕ) (r : Reading RunState) → after_stores (byte_stores address bytes i n) Run r ≡ r
kept-bytes address bytes i zero r = refl
kept-bytes address bytes i (suc n) r = kept-bytes address bytes (i + 1) n r

run-kept : (u : ConfiguredUnit) (executed : Reading Execution) (o : Option StoredRun) (e : Option Ending) (control : Reading UnitControl) (m : Machine)
    → value_after (run_stores executed o ++ (ending_stores u executed e ++ state_store u control)) Run ≡ value_read Run
run-kept u executed o e control m =
    kept-both (run_stores executed o) (ending_stores u executed e ++ state_store u control) (value_read Run)
    ∙ ap (after_stores (ending_stores u executed e ++ state_store u control) Run) (runs o)
    ∙ kept-both (ending_stores u executed e) (state_store u control) (value_read Run)
    ∙ ap (after_stores (state_store u control) Run) (ending e) where
      runs : (o : Option StoredRun) → after_stores (run_stores executed o) Run (value_read Run) ≡ value_read Run
      runs None = refl
      runs (Some x) = kept-bytes x.at (bind executed (λ y. done (bytes_of_run y.stores))) 0 (length x.bytes) (value_read Run)

      ending : (o : Option Ending) → after_stores (ending_stores u executed o) Run (value_read Run) ≡ value_read Run
      ending None = refl
      ending (Some x) = (unit-facts u m).kept (bind (device_read u) (λ d. bind executed (λ y. done (device_ending u d y.ending))))

-- the word, and the address of the unit that is stored if it ends loading
abbrev addressed : ConfiguredUnit → Machine → Row (Option ChannelEnd)
addressed u m = sequence (unit_row (profile_of m.core) u) (address_row u)

abbrev address_made : ConfiguredUnit → UnitState → RunState → Made (Option ChannelEnd)
address_made u state r =
    record { ended = Some (record { state = state; loads = loads r u state }); stores = cond (loads r u state) (address_stores u) [] }

abbrev made_if : ConfiguredUnit → Program → Machine → Bool → Made (Option ChannelEnd)
made_if u program m z = record {
  ended = Some (record { state = (done_in u program m).state; loads = z });
  stores = stores_in u program m ++ stores_through (stores_in u program m) (cond z (address_stores u) []);
}

address-through : (u : ConfiguredUnit) (program : Program) (m : Machine)
    → through (stores_in u program m) (address_row u (Some (done_in u program m).state))
    ≡ bind (value_read Run) (λ r. done (address_made u (done_in u program m).state r))
address-through u program m =
    ap (λ (v : Reading RunState). bind v (λ r. done (address_made u (done_in u program m).state r)))
    (run-kept u (unit_executed bytes_read u (word_in program m) (met_in u program m)) (done_in u program m).stores (done_in u program m).ending
    (state_after (profile_of m.core) u (word_in program m) (met_in u program m)) m)

loads-is : (x : ChannelWord) (program : Program) (m : Machine) → IsChannelWord program m x
    → loads m.control.run_state x.unit (done_in x.unit program m).state ≡ x.loads
loads-is x program m h = sym (h.executed.loads loading_program (done_in x.unit program m).state (unit-ends x.unit program m h.active))

addressed-made : (x : ChannelWord) (program : Program) (m : Machine) → IsChannelWord program m x
    → run (addressed x.unit m) m ≡ made_if x.unit program m x.loads
addressed-made x program m h =
    let u : ConfiguredUnit = x.unit
    in sequence-made (unit_row (profile_of m.core) u) (address_row u) m
    ∙ ap (λ (made : Made (Option UnitState)). made_through made.stores (run (through made.stores (address_row u made.ended)) m))
    (unit-made u program m h.active)
    ∙ ap (λ r. made_through (stores_in u program m) (run r m)) (address-through u program m)
    ∙ ap (made_if u program m) (loads-is x program m h)

address-walked : (q : Question) (u : ConfiguredUnit) (ss : List Store) (m : Machine) (found : List Place) (z : Bool)
    → with_stores_of q m (stores_through ss (cond z (address_stores u) [])) found ≡ with_bytes q 2 (cond z 2 0) [] found
address-walked q u ss m found true = refl
address-walked q u ss m found false = refl

addressed-walked : (q : Question) (x : ChannelWord) (program : Program) (m : Machine) (found : List Place) → IsChannelWord program m x
    → walked q (addressed x.unit m) m found ≡ word_walk q x (with_decided q (state_place x.unit ∷ []) found)
addressed-walked q x program m found h =
    let u : ConfiguredUnit = x.unit
    in let ss : List Store = stores_in u program m
    in let first : Row (Option UnitState) = unit_row (profile_of m.core) u
    in let before : List Place = walked q first m found
    in let further : List Store → Reading (Made (Option ChannelEnd)) → List Place → List Place
    = λ ts r y. with_stores_of q m (stores_through ts (run r m).stores) (with_decided q (places_read r m) y)
    in sequence-walked q first (address_row u) m found
    ∙ ap (λ (made : Made (Option UnitState)). further made.stores (through made.stores (address_row u made.ended)) before) (unit-made u program m h.active)
    ∙ ap (λ r. further ss r before) (address-through u program m)
    ∙ ap (λ z. with_stores_of q m (stores_through ss (cond z (address_stores u) [])) (with_decided q (Run ∷ []) before)) (loads-is x program m h)
    ∙ address-walked q u ss m (with_decided q (Run ∷ []) before) x.loads
    ∙ ap (λ y. with_bytes q 2 (cond x.loads 2 0) [] (with_decided q (Run ∷ []) y)) (unit-walked q x program m found h)

-- what the end of loading reads is followed back through them
back-is : (x : ChannelWord) (program : Program) (m : Machine) (ps : List Place) → IsChannelWord program m x
    → flat_map (sources_by m (run (addressed x.unit m) m).stores) ps ≡ followed_back x ps
back-is x program m [] h = refl
back-is x program m (p ∷ ps) h =
    ap (λ l. l ++ flat_map (sources_by m (run (addressed x.unit m) m).stores) ps) (addressed-walked (Question.Sources p) x program m (p ∷ []) h)
    ∙ ap (λ l. word_walk (Question.Sources p) x (p ∷ []) ++ l) (back-is x program m ps h)

read-back : {X : Type 0} (r : Reading X) (ps : List Place) (x : ChannelWord) (program : Program) (m : Machine) → IsChannelWord program m x → Reads r ps
    → places_read (through (run (addressed x.unit m) m).stores r) m ≡ followed_back x ps
read-back r ps x program m h reads = through-places r ps (run (addressed x.unit m) m).stores m reads ∙ back-is x program m ps h

initial-walked : (q : Question) (x : ChannelWord) (program : Program) (m : Machine) (found : List Place) (z : Bool) → IsChannelWord program m x
    → with_stores_of q m (stores_through (run (addressed x.unit m) m).stores (cond z (initial_stores x.unit) [])) found
    ≡ cond z (with_store q (state_place x.unit) (followed_back x (state_place x.unit ∷ []))
    (with_store q Run [] (with_store q Psw (followed_back x (byte_places 0 8)) found))) found
initial-walked q x program m found false h = refl
initial-walked q x program m found true h =
    let u : ConfiguredUnit = x.unit
    in let ss : List Store = (run (addressed u m) m).stores
    in let idle : Reading UnitControl = bind (control_read u) (λ (c : UnitControl). done (record c { state = UnitState.Idle }))
    in ap (λ ps. with_store q (state_place u) (places_read (through ss idle) m) (with_store q Run [] (with_store q Psw ps found)))
    (read-back (bind (number_read 0 8) (λ doubleword. done (current_psw doubleword))) (byte_places 0 8) x program m h
    (mapped-reads (number_read 0 8) current_psw (byte_places 0 8) (number-reads 0 8)))
    ∙ ap (λ ps. with_store q (state_place u) ps (with_store q Run [] (with_store q Psw (followed_back x (byte_places 0 8)) found)))
    (read-back idle (state_place u ∷ []) x program m h (refl, (refl, λ v. tt)))

pub channel-walked : (q : Question) (x : ChannelWord) (program : Program) (m : Machine) (found : List Place) → IsChannelWord program m x
    → walked q (channel_row (profile_of m.core) x.unit) m found ≡ channel_walk q x (with_decided q (state_place x.unit ∷ []) found)
channel-walked q x program m found h =
    let u : ConfiguredUnit = x.unit
    in let first : Row (Option ChannelEnd) = addressed u m
    in let before : List Place = walked q first m found
    in let initial : Bool → List Store = λ z. cond z (initial_stores u) []
    in let after : List Place = word_walk q x (with_decided q (state_place u ∷ []) found)
    in sequence-stored q first (λ o. record { ended = o; stores = initial (ends_loading o) }) m found
    ∙ ap (λ (made : Made (Option ChannelEnd)). with_stores_of q m (stores_through (run first m).stores (initial (ends_loading made.ended))) before)
    (addressed-made x program m h)
    ∙ initial-walked q x program m before x.loads h
    ∙ ap (λ y. cond x.loads (with_store q (state_place u) (followed_back x (state_place u ∷ []))
    (with_store q Run [] (with_store q Psw (followed_back x (byte_places 0 8)) y))) y) (addressed-walked q x program m found h)

-- the word at hand of a unit
pub word-walked : (q : Question) (u : ConfiguredUnit) (x : ChannelWord) (program : Program) (m : Machine) (found after : List Place)
    → IsWordIn m u (UnitState.Active program) (Some x) → after ≡ channel_walk q x (with_decided q (state_place u ∷ []) found)
    → after ≡ walked q (channel_row (profile_of m.core) u) m found
word-walked q u x program m found after h is =
    subst (λ v. after ≡ channel_walk q x (with_decided q (state_place v ∷ []) found) → after ≡ walked q (channel_row (profile_of m.core) v) m found)
    h.0 (λ k. k ∙ sym (channel-walked q x program m found h.1)) is
