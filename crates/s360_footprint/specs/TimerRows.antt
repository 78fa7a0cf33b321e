-- A tick of the timer as a row (GA22-6821, "System Structure", interval timer).
use Rattle.std.specs.Prelude.{ℕ, Bool, true, if◌then◌else◌, List, [], ◌∷◌, ◌++◌}
use Rattle.std.specs.Int.{bytes_high_first}
use Rattle.s360_store.specs.declared.place.Place.TheVariants.{Run, External}
use Rattle.s360_machine.specs.declared.external.ExternalConditions.{ExternalConditions}
use Rattle.s360_machine.specs.RunStates.{is_operating}
use Rattle.s360_machine.specs.Timer.{runs_out, timer_after_tick, timer_location}
use Rattle.s360_footprint.specs.OperandReadings.{number_read}
use Rattle.s360_footprint.specs.Readings.{Reading, bind, done, read}
use Rattle.s360_footprint.specs.Rows.{Row, Store}
use Rattle.s360_footprint.specs.StoringRows.{byte_stores}

-- the timer, and the condition that becomes pending where it runs out
abbrev pub timer_read : Reading (List ℕ)
timer_read = bind (number_read timer_location 4) (λ word. done (bytes_high_first 4 (timer_after_tick word)))

abbrev pub conditions_after_tick : ExternalConditions → ℕ → ExternalConditions
conditions_after_tick e word = if runs_out word then record e { timer = true } else e

abbrev pub conditions_read : Reading ExternalConditions
conditions_read = read External (λ e. bind (number_read timer_location 4) (λ word. done (conditions_after_tick e word)))

abbrev pub tick_stores : List Store
tick_stores = byte_stores timer_location timer_read 0 4 ++ record { place = External; value = conditions_read } ∷ []

-- while the machine operates
abbrev pub tick_row : Row Bool
tick_row = read Run (λ r. done (record { ended = is_operating r; stores = if is_operating r then tick_stores else [] }))
