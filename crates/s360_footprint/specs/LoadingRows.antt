-- A channel event with the end of loading as a row (GA22-6821, "System Control Panel", initial program loading).
use Rattle.std.specs.Prelude.{Bool, false, if◌then◌else◌, Option, None, Some, [], ◌∷◌, List}
use Rattle.std.specs.Int.{bytes_high_first}
use Rattle.std.specs.Option.{option_map_or}
use Rattle.s360_model.specs.Psw.{current_psw}
use Rattle.s360_word.specs.declared.unit.Unit.{Unit as UnitAddress}
use Rattle.s360_store.specs.declared.place.Place.TheVariants.{Psw, Run}
use Rattle.s360_channel.specs.declared.configured_unit.ConfiguredUnit.{ConfiguredUnit}
use Rattle.s360_channel.specs.declared.{unit_control.UnitControl.UnitControl, unit_state.UnitState.UnitState}
use Rattle.s360_channel.specs.ConfiguredUnits.{address_of_unit, unit_at}
use Rattle.s360_channel.specs.Programs.{loading_program}
use Rattle.s360_machine.specs.declared.run_state.RunState.{RunState}
use Rattle.s360_machine.specs.Loading.{has_loaded}
use Rattle.s360_footprint.specs.ChannelRows.{control_read, state_store, unit_row}
use Rattle.s360_footprint.specs.OperandReadings.{Profile, number_read}
use Rattle.s360_footprint.specs.Readings.{Reading, bind, done, read}
use Rattle.s360_footprint.specs.Rows.{Made, Row, Store}
use Rattle.s360_footprint.specs.Sequences.{sequence}
use Rattle.s360_footprint.specs.StoringRows.{byte_stores}

-- how the event ends: the state of the unit that executed a word, with zeros for what an output fetched; and whether it ends loading
pub record ChannelEnd : Type 0 where
  pub state : UnitState
  pub loads : Bool

-- the unit executed a program, and stands so then
abbrev pub loads : RunState → ConfiguredUnit → UnitState → Bool
loads r u state = has_loaded r u (UnitState.Active loading_program) state

-- the address of the unit is stored, and then the PSW is loaded, the machine operates, and the unit is idle
abbrev pub address_stores : ConfiguredUnit → List Store
address_stores u = byte_stores 2 (done (bytes_high_first 2 (address_of_unit u))) 0 2

abbrev pub initial_stores : ConfiguredUnit → List Store
initial_stores u =
    record { place = Psw; value = bind (number_read 0 8) (λ doubleword. done (current_psw doubleword)) }
    ∷ (record { place = Run; value = done RunState.Operating }
    ∷ state_store u (bind (control_read u) (λ (c : UnitControl). done (record c { state = UnitState.Idle }))))

abbrev pub address_row : ConfiguredUnit → Option UnitState → Row (Option ChannelEnd)
address_row u None = done (record { ended = None; stores = [] })
address_row u (Some state) =
    read Run (λ r. done (record {
      ended = Some (record { state = state; loads = loads r u state });
      stores = if loads r u state then address_stores u else [];
    }))

abbrev pub ends_loading : Option ChannelEnd → Bool
ends_loading e = option_map_or (λ (x : ChannelEnd). x.loads) e false

abbrev pub initial_row : ConfiguredUnit → Option ChannelEnd → Row (Option ChannelEnd)
initial_row u e = done (record { ended = e; stores = if ends_loading e then initial_stores u else [] })

abbrev pub channel_row : Profile → ConfiguredUnit → Row (Option ChannelEnd)
channel_row p u = sequence (sequence (unit_row p u) (address_row u)) (initial_row u)

-- by the address of the unit
abbrev pub row_of_unit : Profile → Option ConfiguredUnit → Row (Option ChannelEnd)
row_of_unit p None = done (record { ended = None; stores = [] })
row_of_unit p (Some u) = channel_row p u

abbrev pub channel_event_row : Profile → UnitAddress → Row (Option ChannelEnd)
channel_event_row p unit = row_of_unit p (unit_at unit.0)
