-- A row: what an event stores, and how it ends, as a reading of the machine that meets it. Of a row come the places that the event stores into, the sources
-- of each place and the deciders (ours).
use Rattle.std.specs.Prelude.{nat_eq, if◌then◌else◌, List, [], ◌∷◌, map, Option, Some}
use Rattle.s360_store.specs.declared.place.Place.{Place}
use Rattle.s360_store.specs.declared.place.Place.TheVariants.{Psw, Register, Byte, Key, Run, External, UnitState, UnitMedia}
use Rattle.s360_channel.specs.declared.configured_unit.ConfiguredUnit.{ConfiguredUnit}
use Rattle.s360_channel.specs.declared.configured_unit.ConfiguredUnit.TheVariants.{Reader, Punch, Printer, Console, Tape0, Tape1}
use Rattle.s360_channel.specs.ConfiguredUnits.{unit_at}
use Rattle.s360_machine.specs.Machine.{Machine}
use Rattle.s360_footprint.specs.Readings.{Reading, places_read, run, value_read}
use Rattle.s360_footprint.specs.Values.{DeviceAt, Value, with_value_there}

-- a store: a place, and a reading of the value that it gets
pub record Store : Type 0 where
  pub place : Place
  pub value : Reading (Value place)

-- what an event does: how it ends, and its stores in their order. All values are made of the machine before the event
pub record Made (Ending : Type 0) : Type 0 where
  pub ended : Ending
  pub stores : List Store

abbrev pub Row : Type 0 → Type 0
Row Ending = Reading (Made Ending)

-- a machine with stores whose values are made of the one before
abbrev pub with_stores : Machine → Machine → List Store → Machine
with_stores before m [] = m
with_stores before m (s ∷ ss) = with_stores before (with_value_there m s.place (run s.value before)) ss

-- the machine after the event
abbrev pub after : {Ending : Type 0} → Row Ending → Machine → Machine
after row m = with_stores m m (run row m).stores

-- a reading of a unit's device, and of any value, after a store
abbrev pub device_after : (u w : Option ConfiguredUnit) → Reading (DeviceAt u) → Reading (DeviceAt w) → Reading (DeviceAt w)
device_after (Some Reader) (Some Reader) stored other = stored
device_after (Some Punch) (Some Punch) stored other = stored
device_after (Some Printer) (Some Printer) stored other = stored
device_after (Some Console) (Some Console) stored other = stored
device_after (Some Tape0) (Some Tape0) stored other = stored
device_after (Some Tape1) (Some Tape1) stored other = stored
device_after u w stored other = other

abbrev pub after_store : (q p : Place) → Reading (Value q) → Reading (Value p) → Reading (Value p)
after_store Psw Psw stored other = stored
after_store (Register n) (Register k) stored other = if nat_eq n k then stored else other
after_store (Byte n) (Byte k) stored other = if nat_eq n k then stored else other
after_store (Key n) (Key k) stored other = if nat_eq n k then stored else other
after_store Run Run stored other = stored
after_store External External stored other = stored
after_store (UnitState u) (UnitState w) stored other = if nat_eq u.0 w.0 then stored else other
after_store (UnitMedia u) (UnitMedia w) stored other = device_after (unit_at u.0) (unit_at w.0) stored other
after_store q p stored other = other

-- what stands at a place after stores, as a reading of the machine before: the value of the last one there, or what stood there
abbrev pub after_stores : List Store → (p : Place) → Reading (Value p) → Reading (Value p)
after_stores [] p other = other
after_stores (s ∷ ss) p other = after_stores ss p (after_store s.place p s.value other)

abbrev pub value_after : List Store → (p : Place) → Reading (Value p)
value_after ss p = after_stores ss p (value_read p)

-- the places that an event stores into, whether or not the value there differs
abbrev pub places_of_stores : List Store → List Place
places_of_stores ss = map (λ (s : Store). s.place) ss

abbrev pub stored : {Ending : Type 0} → Row Ending → Machine → List Place
stored row m = places_of_stores (run row m).stores

-- the sources of a place: what stands there afterwards is made of what stood at these
abbrev pub sources : {Ending : Type 0} → Row Ending → Machine → Place → List Place
sources row m p = places_read (value_after (run row m).stores p) m

-- the deciders: what the event does, where it stores and how it ends come from these
abbrev pub deciders : {Ending : Type 0} → Row Ending → Machine → List Place
deciders row m = places_read row m
