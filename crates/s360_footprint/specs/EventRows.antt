-- The row of each event, and what it stores, its sources and its deciders (ours).
use Rattle.std.specs.Prelude.{Bool, Option, List}
use Rattle.s360_store.specs.declared.place.Place.{Place}
use Rattle.s360_machine.specs.declared.event.Event.{Event}
use Rattle.s360_machine.specs.Machine.{Machine}
use Rattle.s360_footprint.specs.CpuRows.{CpuEnd, cpu_row}
use Rattle.s360_footprint.specs.LoadingRows.{ChannelEnd, channel_event_row}
use Rattle.s360_footprint.specs.OperandReadings.{Profile, profile_of}
use Rattle.s360_footprint.specs.OperatorRows.{key_stores, patch_stores}
use Rattle.s360_footprint.specs.Readings.{bind, done}
use Rattle.s360_footprint.specs.Rows.{Made, Row, deciders as deciders_of, sources as sources_of, stored as stored_by}
use Rattle.s360_footprint.specs.TimerRows.{tick_row}

-- how an event ends: a key and a patch do what they do in any machine
pub data EventEnd : Type 0 where
  of_cpu : CpuEnd → EventEnd
  of_channel : Option ChannelEnd → EventEnd
  of_tick : Bool → EventEnd
  of_operator : EventEnd

abbrev pub ending_as : {A : Type 0} → (A → EventEnd) → Row A → Row EventEnd
ending_as kind row = bind row (λ made. done (record { ended = kind made.ended; stores = made.stores }))

abbrev pub event_row : Profile → Event → Row EventEnd
event_row p Event.Cpu = ending_as of_cpu (cpu_row p)
event_row p (Event.Channel unit) = ending_as of_channel (channel_event_row p unit)
event_row p Event.Tick = ending_as of_tick tick_row
event_row p (Event.Key key) = done (record { ended = of_operator; stores = key_stores key })
event_row p (Event.Patch patch) = done (record { ended = of_operator; stores = patch_stores p patch })

-- in a machine
abbrev pub row_in : Machine → Event → Row EventEnd
row_in m e = event_row (profile_of m.core) e

abbrev pub stored : Machine → Event → List Place
stored m e = stored_by (row_in m e) m

abbrev pub sources : Machine → Event → Place → List Place
sources m e p = sources_of (row_in m e) m p

abbrev pub deciders : Machine → Event → List Place
deciders m e = deciders_of (row_in m e) m
