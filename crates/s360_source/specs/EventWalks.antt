-- What is found of an instruction, of an interruption and of an event (ours).
use Rattle.std.specs.Prelude.{ℕ, ◌+◌, ◌^◌, ◌≡◌, ◌≤◌, ◌||◌, Bool, Option, Some, None, is_some, if◌then◌else◌, List, [], ◌∷◌, flat_map, length}
use Rattle.s360_model.specs.Psw.{channel_mask_of}
use Rattle.s360_psw.specs.declared.class.Class.{Class}
use Rattle.s360_psw.specs.Class.{new_location_of, old_location_of}
use Rattle.s360_store.specs.declared.place.Place.{Place}
use Rattle.s360_store.specs.{Spans.byte_places, declared.place.Place.TheVariants.Psw}
use Rattle.s360_channel.specs.declared.{configured_unit.ConfiguredUnit.ConfiguredUnit, unit_control.UnitControl.UnitControl}
use Rattle.s360_channel.specs.declared.configured_unit.ConfiguredUnit.TheVariants.{Reader, Punch, Printer, Console, Tape0, Tape1}
use Rattle.s360_channel.specs.{Differences.state_place, Units.is_active, Units.is_waiting}
use Rattle.s360_machine.specs.declared.{event.Event.Event, event.Patch.Patch}
use Rattle.s360_machine.specs.Machine.{Machine}
use Rattle.s360_footprint.specs.{CpuRows.condition_stores, InstructionLaws.row_in, Readings.places_read, Readings.run, Rows.Store}
use Rattle.s360_source.specs.declared.{interruption.Before.Before, question.Question.Question}
use Rattle.s360_source.specs.Walks.{sources_by, with_bytes, with_decided, with_store, with_stores_of}

-- an interruption of a class: the old PSW is made of the PSW, and the new one of the doubleword at its location
abbrev pub interruption_walk : Question → Class → List Place → List Place
interruption_walk question class found =
    with_store question Psw (byte_places (new_location_of class) 8) (with_bytes question (old_location_of class) 8 (Psw ∷ []) found)

-- what it follows: what is read to know what that does, and its stores
abbrev pub decided_before : Machine → Before → List Place
decided_before m Before.Instruction = places_read (row_in m) m
decided_before m (Before.Status u) = state_place u ∷ []

abbrev pub stores_before : Machine → Before → List Store
stores_before m Before.Instruction = (run (row_in m) m).stores
stores_before m (Before.Status u) = condition_stores u

-- an interruption after stores: what it is made of is followed back through them
abbrev pub interrupted_walk : Question → Machine → List Store → Class → List Place → List Place
interrupted_walk (Question.Sources p) m stores class found = flat_map (sources_by m stores) (interruption_walk (Question.Sources p) class (p ∷ []))
interrupted_walk question m stores class found = interruption_walk question class (with_stores_of question m stores found)

-- a walk begins so that a place is made of itself
abbrev pub IsBegun : Question → List Place → Type 0
IsBegun (Question.Sources p) found = found ≡ p ∷ []
IsBegun question found = Unit {0}

-- the bytes that are stored from outside have addresses of 32 bits
abbrev pub AreAddressed : Question → ℕ → ℕ → Type 0
AreAddressed Question.Stored at count = at + count ≤ 2 ^ 32
AreAddressed question at count = Unit {0}

abbrev pub IsAddressed : Question → Event → Type 0
IsAddressed question (Event.Patch (Patch.Bytes at bytes)) = AreAddressed question at (length bytes)
IsAddressed question event = Unit {0}

-- the units that are asked for a condition, those of the channels that may interrupt
abbrev pub asked_walk : Question → ℕ → List Place → List Place
asked_walk question psw found =
    with_decided question (if channel_mask_of psw 1 then state_place Tape0 ∷ state_place Tape1 ∷ [] else [])
    (with_decided question (if channel_mask_of psw 0
    then state_place Reader ∷ state_place Punch ∷ state_place Printer ∷ state_place Console ∷ [] else []) found)

-- the other tape
abbrev pub other_tape : ConfiguredUnit → Option ConfiguredUnit
other_tape Tape0 = Some Tape1
other_tape Tape1 = Some Tape0
other_tape u = None

-- how a unit stands, if there is one; and the unit that an instruction names, with the other tape
abbrev pub state_places : Option ConfiguredUnit → List Place
state_places None = []
state_places (Some u) = state_place u ∷ []

abbrev pub units_named : Option ConfiguredUnit → List Place
units_named None = []
units_named (Some u) = state_place u ∷ state_places (other_tape u)

-- START I/O: the unit, or its channel, has something to do or to tell
abbrev pub is_unavailable : Option ConfiguredUnit → UnitControl → Bool
is_unavailable other control = is_active control.state || (is_waiting control.state || (is_some other || control.attention))
