-- An event: an interruption of a unit, an instruction with what follows it, a key, a patch, and the sources of a place.
use Rattle.std.proofs.Common.{ℕ, ◌≡◌, ◌∙◌, ◌++◌, ◌&&◌, Bool, true, false, cond, Option, Some, None, List, [], ◌∷◌, refl, ap, sym, ◌+◌, length, arith, ◌⊎◌}
use Rattle.std.proofs.Common.{inl, inr}
use Rattle.std.proofs.lemmas.List.{append-nil}
use Rattle.std.specs.List.{find}
use Rattle.std.specs.Prelude.{is_some}
use Rattle.s360_model.specs.Psw.{channel_mask_of}
use Rattle.s360_word.specs.declared.unit.Unit.{Unit as UnitAddress}
use Rattle.s360_psw.specs.declared.class.Class.{Class}
use Rattle.s360_store.specs.declared.place.Place.{Place}
use Rattle.s360_store.specs.declared.place.Place.TheVariants.{UnitMedia}
use Rattle.s360_fixed.specs.declared.{ended.Ended.Ended, ended.IoOperation.IoOperation, program_code.ProgramCode.ProgramCode}
use Rattle.s360_fixed.specs.ProgramCodes.{number_of_code}
use Rattle.s360_channel.specs.declared.{configured_unit.ConfiguredUnit.ConfiguredUnit, unit_control.Condition.Condition, unit_control.UnitControl.UnitControl}
use Rattle.s360_channel.specs.ConfiguredUnits.{address_of_unit, channel_of, configured_units, control_of, interrupting_unit, unit_at}
use Rattle.s360_channel.specs.declared.configured_unit.ConfiguredUnit.TheVariants.{Reader, Punch, Printer, Console, Tape0, Tape1}
use Rattle.s360_channel.specs.{Differences.state_place, Units.condition_of, Units.is_pending}
use Rattle.s360_machine.specs.declared.{event.Event.Event, operator.Key.Key, run_state.RunState.RunState}
use Rattle.s360_machine.specs.Machine.{Machine}
use Rattle.s360_footprint.specs.CpuRows.{CpuEnd, condition_row, condition_stores, executed, executing_row, external_comes, external_row, following_row}
use Rattle.s360_footprint.specs.CpuRows.{interrupting_read, psw_now_read, running_row, unit_or_instruction}
use Rattle.s360_footprint.specs.EventRows.{EventEnd, row_in as event_row_in, sources}
use Rattle.s360_footprint.specs.InterruptionRows.{interruption_stores, old_psw_read, stores_after}
use Rattle.s360_footprint.specs.Readings.{bind, done, places_read, run, value_read, Reading}
use Rattle.s360_footprint.specs.Rows.{Made, Row, Store, after_store, after_stores, device_after}
use Rattle.s360_footprint.specs.{ChannelRows.control_read, InstructionLaws.row_in, InstructionRows.InstructionEnd, IoRows.io_row, OperandReadings.profile_of}
use Rattle.s360_footprint.specs.{OperatorRows.key_stores, OperatorRows.reset_stores, Sequences.stores_through, StoringRows.byte_stores, Values.DeviceAt}
use Rattle.s360_footprint.specs.{Values.Value}
use Rattle.s360_footprint.proofs.ChannelRowLemmas.{control-is}
use Rattle.s360_source.specs.declared.{interruption.Before.Before, question.Question.Question}
use Rattle.s360_source.specs.Answers.{is_of_unit}
use Rattle.s360_source.specs.EventWalks.{IsBegun, decided_before, interrupted_walk, stores_before}
use Rattle.s360_source.specs.Walks.{walked, with_decided, with_stores_of, with_bytes}
use Rattle.s360_source.proofs.WalkLemmas.{decided_none, walked-bind, bytes-walked}
use Rattle.s360_source.proofs.{AnswerLemmas.nothing-decided, AnswerLemmas.walks-answer, InstructionLemmas.ended-walked, ThroughLemmas.interrupted-walked}

-- a walk that is begun
begun-decided : (q : Question) (ps found : List Place) → IsBegun q found → IsBegun q (with_decided q ps found)
begun-decided Question.Deciders ps found b = tt
begun-decided Question.Stored ps found b = tt
begun-decided (Question.Sources p) ps found b = b

-- an interruption of a unit
found-holds : (p : ConfiguredUnit → Bool) (us : List ConfiguredUnit) (u : ConfiguredUnit) → find p us ≡ Some u → p u ≡ true
found-holds p [] u e = absurd (cc)
found-holds p (v ∷ us) u e = by (p v) refl e (found-holds p us u) where
  by : (z : Bool) → p v ≡ z → cond z (Some v) (find p us) ≡ Some u → (find p us ≡ Some u → p u ≡ true) → p u ≡ true
  by true h e later = let is : v ≡ u = cc in rw (← is) h
  by false h e later = later e

both-second : (a b : Bool) → (a && b) ≡ true → b ≡ true
both-second true b e = e
both-second false b e = absurd (cc)

condition-walked : (q : Question) (u : ConfiguredUnit) (o : Option Condition) (m : Machine) (found : List Place) → is_some o ≡ true → IsBegun q found
    → walked q (condition_row u o) m found ≡ interrupted_walk q m (condition_stores u) Class.InputOutput found
condition-walked q u None m found s b = absurd (cc)
condition-walked q u (Some c) m found s b =
    let old = psw_now_read (address_of_unit u)
    in decided_none' q found (condition_stores u ++ stores_through (condition_stores u) (interruption_stores Class.InputOutput old)) m
    ∙ interrupted-walked q (condition_stores u) Class.InputOutput old m found (refl, (refl, λ v. tt)) b where
      decided_none' : (q : Question) (found : List Place) (ss : List Store) (m : Machine)
          → with_stores_of q m ss (with_decided q [] found) ≡ with_stores_of q m ss found
      decided_none' q found ss m = ap (with_stores_of q m ss) (decided_none q found)

pub unit-walked : (q : Question) (u : ConfiguredUnit) (m : Machine) (found after : List Place) → interrupting_unit m.core.psw m.units ≡ Some u → IsBegun q found
    → after ≡ interrupted_walk q m (stores_before m (Before.Status u)) Class.InputOutput (with_decided q (decided_before m (Before.Status u)) found)
    → after ≡ walked q (unit_or_instruction (profile_of m.core) m.core.psw (interrupting_unit m.core.psw m.units)) m found
unit-walked q u m found after e b h =
    let pending : is_pending (control_of m.units u) ≡ true
    = both-second (channel_mask_of m.core.psw (channel_of u)) (is_pending (control_of m.units u))
    (found-holds (λ v. channel_mask_of m.core.psw (channel_of v) && is_pending (control_of m.units v)) configured_units u e)
    in let further : UnitControl → Row CpuEnd = λ control. condition_row u (condition_of control)
    in let decided : List Place = with_decided q (state_place u ∷ []) found
    in h ∙ sym (ap (λ o. walked q (unit_or_instruction (profile_of m.core) m.core.psw o) m found) e
    ∙ walked-bind q (control_read u) further m found
    ∙ ap (λ c. walked q (further c) m decided) (control-is u m)
    ∙ condition-walked q u (condition_of (control_of m.units u)) m decided pending (begun-decided q (state_place u ∷ []) found b))

-- an instruction, by how it ends
abbrev after_reading : Question → Machine → List Place → List Place
after_reading q m found = with_decided q (places_read (row_in m) m) found

executing-walked : (q : Question) (m : Machine) (found after : List Place) (ended : Ended) → ended ≡ (run (row_in m) m).ended.ended
    → after ≡ walked q (following_row (profile_of m.core) (run (row_in m) m) ended) m (after_reading q m found)
    → after ≡ walked q (executing_row (profile_of m.core)) m found
executing-walked q m found after ended e h =
    let further : Made InstructionEnd → Row InstructionEnd = λ made. following_row (profile_of m.core) made made.ended.ended
    in h ∙ sym (ended-walked q (bind (row_in m) further) executed m found
    ∙ walked-bind q (row_in m) further m found
    ∙ ap (λ x. walked q (following_row (profile_of m.core) (run (row_in m) m) x) m (after_reading q m found)) (sym e))

-- the stores of an interruption that follows so an instruction
abbrev stores_following : Machine → Ended → List Store
stores_following m ended =
    let made : Made InstructionEnd = run (row_in m) m
    in made.stores ++ stores_through made.stores (stores_after ended made.ended.next_address made.ended.instruction_length)

following-walked : (q : Question) (m : Machine) (ended : Ended) (found after : List Place) → ended ≡ (run (row_in m) m).ended.ended
    → after ≡ with_stores_of q m (stores_following m ended) found
    → after ≡ with_stores_of q m (stores_following m (run (row_in m) m).ended.ended) (with_decided q [] found)
following-walked q m ended found after e h =
    h ∙ ap (λ x. with_stores_of q m (stores_following m x) found) e
    ∙ sym (ap (with_stores_of q m (stores_following m (run (row_in m) m).ended.ended)) (decided_none q found))

pub done-walked : (q : Question) (m : Machine) (found after : List Place) (ended : Ended) → ended ≡ (run (row_in m) m).ended.ended → ended ≡ Ended.Done
    → after ≡ walked q (row_in m) m found → after ≡ walked q (executing_row (profile_of m.core)) m found
done-walked q m found after ended e is h =
    let stores : List Store = (run (row_in m) m).stores
    in executing-walked q m found after Ended.Done (sym is ∙ e)
    (following-walked q m Ended.Done (after_reading q m found) after (sym is ∙ e)
    (h ∙ ap (λ ss. with_stores_of q m ss (after_reading q m found)) (sym (append-nil stores))))

pub program-walked : (q : Question) (m : Machine) (found after : List Place) (ended : Ended) (code : ProgramCode)
    → ended ≡ (run (row_in m) m).ended.ended → ended ≡ Ended.Program code → IsBegun q found
    → after ≡ interrupted_walk q m (stores_before m Before.Instruction) Class.Program (with_decided q (decided_before m Before.Instruction) found)
    → after ≡ walked q (executing_row (profile_of m.core)) m found
program-walked q m found after ended code e is b h =
    let made : Made InstructionEnd = run (row_in m) m
    in let old = old_psw_read made.ended.next_address (number_of_code code) made.ended.instruction_length
    in let begun : IsBegun q (after_reading q m found) = begun-decided q (places_read (row_in m) m) found b
    in executing-walked q m found after (Ended.Program code) (sym is ∙ e)
    (following-walked q m (Ended.Program code) (after_reading q m found) after (sym is ∙ e)
    (h ∙ sym (interrupted-walked q made.stores Class.Program old m (after_reading q m found) (refl, (refl, λ v. tt)) begun)))

pub svc-walked : (q : Question) (m : Machine) (found after : List Place) (ended : Ended) (code : ℕ)
    → ended ≡ (run (row_in m) m).ended.ended → ended ≡ Ended.Svc code → IsBegun q found
    → after ≡ interrupted_walk q m (stores_before m Before.Instruction) Class.Supervisor (with_decided q (decided_before m Before.Instruction) found)
    → after ≡ walked q (executing_row (profile_of m.core)) m found
svc-walked q m found after ended code e is b h =
    let made : Made InstructionEnd = run (row_in m) m
    in let old = old_psw_read made.ended.next_address code made.ended.instruction_length
    in let begun : IsBegun q (after_reading q m found) = begun-decided q (places_read (row_in m) m) found b
    in executing-walked q m found after (Ended.Svc code) (sym is ∙ e)
    (following-walked q m (Ended.Svc code) (after_reading q m found) after (sym is ∙ e)
    (h ∙ sym (interrupted-walked q made.stores Class.Supervisor old m (after_reading q m found) (refl, (refl, λ v. tt)) begun)))

pub io-walked : (q : Question) (m : Machine) (found now after : List Place) (ended : Ended) (operation : IoOperation) (unit : UnitAddress)
    → ended ≡ (run (row_in m) m).ended.ended → ended ≡ Ended.Io operation unit → now ≡ after_reading q m found
    → ((e : InstructionEnd) → after ≡ walked q (io_row (profile_of m.core) operation unit e) m now)
    → after ≡ walked q (executing_row (profile_of m.core)) m found
io-walked q m found now after ended operation unit e is h k =
    let end : InstructionEnd = (run (row_in m) m).ended
    in executing-walked q m found after (Ended.Io operation unit) (sym is ∙ e)
    (k end ∙ ap (walked q (io_row (profile_of m.core) operation unit end) m) h)

-- what the CPU does while the machine operates
pub external-running : (q : Question) (m : Machine) (found now after : List Place) (comes : Bool) → comes ≡ run (external_comes m.core.psw) m → comes ≡ true
    → now ≡ with_decided q (places_read (external_comes m.core.psw) m) found → after ≡ walked q external_row m now
    → after ≡ walked q (running_row (profile_of m.core) m.core.psw) m found
external-running q m found now after comes e is h k =
    let further : Bool → Row CpuEnd
    = λ comes. cond comes external_row (bind (interrupting_read m.core.psw configured_units) (unit_or_instruction (profile_of m.core) m.core.psw))
    in k ∙ ap (walked q external_row m) h
    ∙ ap (λ z. walked q (further z) m (with_decided q (places_read (external_comes m.core.psw) m) found)) (sym is ∙ e)
    ∙ sym (walked-bind q (external_comes m.core.psw) further m found)

-- what is read of an instruction that the channels do
pub deciders-walked : (q : Question) (m : Machine) (found after : List Place) → q ≡ Question.Deciders → after ≡ walked q (row_in m) m found
    → after ≡ with_decided q (places_read (row_in m) m) found
deciders-walked Question.Deciders m found after e h = h ∙ nothing-decided m (run (row_in m) m).stores (found ++ places_read (row_in m) m)
deciders-walked Question.Stored m found after e h = absurd (cc)
deciders-walked (Question.Sources p) m found after e h = absurd (cc)

-- a reset, alone and before loading
pub reset-walked : (q : Question) (m : Machine) (k : Key) (found after : List Place) → (k ≡ Key.Reset) ⊎ ((u : UnitAddress) × (k ≡ Key.Load u))
    → ((r : RunState) → (loading : Option ConfiguredUnit) → after ≡ with_stores_of q m (reset_stores r loading) found)
    → after ≡ with_stores_of q m (key_stores k) found
reset-walked q m k found after (inl e) h = rw e (h RunState.Stopped None)
reset-walked q m k found after (inr u) h = rw u.1 (h (RunState.Loading u.0) (unit_at u.0.0))

-- bytes from outside
pub outside-walked : (q : Question) (m : Machine) (at : ℕ) (bytes : List ℕ) (found : List Place)
    → with_bytes q at (length bytes) [] found ≡ with_stores_of q m (byte_stores at (done bytes) 0 (length bytes)) found
outside-walked q m at bytes found =
    let all : length bytes ≡ 0 + length bytes = omega arith
    in ap (λ n. with_bytes q at n [] found) all ∙ sym (bytes-walked q (done bytes) m at 0 (length bytes) found)

-- a device of a unit that the machine lacks is not stored
no-device : (o p : Option ConfiguredUnit) (v : Reading (DeviceAt o)) (r : Reading (DeviceAt p)) (m : Machine) → is_some p ≡ false
    → places_read (device_after o p v r) m ≡ places_read r m
no-device None None v r m h = refl
no-device (Some Reader) None v r m h = refl
no-device (Some Punch) None v r m h = refl
no-device (Some Printer) None v r m h = refl
no-device (Some Console) None v r m h = refl
no-device (Some Tape0) None v r m h = refl
no-device (Some Tape1) None v r m h = refl
no-device o (Some u) v r m h = absurd (cc)

lacked : (q p : Place) (v : Reading (Value q)) (r : Reading (Value p)) (m : Machine) → is_of_unit p ≡ false
    → places_read (after_store q p v r) m ≡ places_read r m
lacked (UnitMedia w) (UnitMedia u) v r m h = no-device (unit_at w.0) (unit_at u.0) v r m h
lacked q (UnitMedia u) v r m h = refl
lacked q p v r m h = absurd (cc)

all-lacked : (p : Place) (m : Machine) (ss : List Store) (r : Reading (Value p)) → is_of_unit p ≡ false
    → places_read (after_stores ss p r) m ≡ places_read r m
all-lacked p m [] r h = refl
all-lacked p m (s ∷ ss) r h = all-lacked p m ss (after_store s.place p s.value r) h ∙ lacked s.place p s.value r m h

pub sources-lacked : (m : Machine) (e : Event) (p : Place) → is_of_unit p ≡ false → p ∷ [] ≡ sources m e p
sources-lacked m e p h = sym (all-lacked p m (run (event_row_in m e) m).stores (value_read p) h)

pub sources-are : (m : Machine) (e : Event) (p : Place) (before found : List Place) → is_of_unit p ≡ true → before ≡ p ∷ []
    → found ≡ walked (Question.Sources p) (event_row_in m e) m before → found ≡ sources m e p
sources-are m e p before found h b k =
    k ∙ ap (walked (Question.Sources p) (event_row_in m e) m) b ∙ walks-answer EventEnd (Question.Sources p) (event_row_in m e) m h
