-- The stores of a key of the operator, and of a patch (GA22-6821, "System Control Panel").
use Rattle.std.specs.Prelude.{ℕ, true, ◌/◌, if◌then◌else◌, Option, None, List, [], ◌∷◌, flat_map, length}
use Rattle.s360_model.specs.{Psw.current_psw, Storage.block_size, Storage.fetch_bit_of_block, Storage.key_of_block, Storage.with_fetch_bit}
use Rattle.s360_store.specs.declared.place.Place.TheVariants.{Psw, Register, Key as key_place, Run, External}
use Rattle.s360_device.specs.Reader.{with_end_key}
use Rattle.s360_print.specs.Console.{with_line}
use Rattle.s360_channel.specs.declared.configured_unit.ConfiguredUnit.{ConfiguredUnit}
use Rattle.s360_channel.specs.declared.configured_unit.ConfiguredUnit.TheVariants.{Reader, Console}
use Rattle.s360_channel.specs.declared.unit_control.UnitControl.{UnitControl}
use Rattle.s360_channel.specs.ConfiguredUnits.{configured_units, control_of, unit_at}
use Rattle.s360_machine.specs.declared.{event.Patch.Patch, external.ExternalConditions.ExternalConditions, operator.Key.Key, run_state.RunState.RunState}
use Rattle.s360_machine.specs.Loading.{units_after_reset}
use Rattle.s360_machine.specs.Machine.{no_external}
use Rattle.s360_machine.specs.Operator.{after_start, after_stop}
use Rattle.s360_footprint.specs.ChannelRows.{control_read, device_read, device_store, state_store}
use Rattle.s360_footprint.specs.OperandReadings.{Profile}
use Rattle.s360_footprint.specs.Readings.{Reading, bind, done, read}
use Rattle.s360_footprint.specs.Rows.{Store}
use Rattle.s360_footprint.specs.StoringRows.{byte_stores}
use Rattle.s360_footprint.specs.Values.{DeviceOf}

abbrev pub run_store : Reading RunState → Store
run_store r = record { place = Run; value = r }

abbrev pub external_store : Reading ExternalConditions → Store
external_store e = record { place = External; value = e }

-- a reset: each unit is made of nothing, and so are the run state and the external conditions
abbrev pub reset_units : Option ConfiguredUnit → List Store
reset_units loading = flat_map (λ (u : ConfiguredUnit). state_store u (done (control_of (units_after_reset loading) u))) configured_units

abbrev pub reset_stores : RunState → Option ConfiguredUnit → List Store
reset_stores r loading = run_store (done r) ∷ (external_store (done no_external) ∷ reset_units loading)

abbrev pub key_stores : Key → List Store
key_stores Key.Start = run_store (read Run (λ r. done (after_start r))) ∷ []
key_stores Key.Stop = run_store (read Run (λ r. done (after_stop r))) ∷ []
key_stores Key.Reset = reset_stores RunState.Stopped None
key_stores (Key.Load unit) = reset_stores (RunState.Loading unit) (unit_at unit.0)
key_stores Key.Interrupt = external_store (read External (λ e. done (record e { key = true }))) ∷ []
key_stores Key.EndOfFile = device_store Reader (bind (device_read Reader) (λ (d : DeviceOf Reader). done (with_end_key d))) ∷ []
key_stores Key.Request = state_store Console (bind (control_read Console) (λ (c : UnitControl). done (record c { attention = true })))
key_stores (Key.Enter line) =
    device_store Console (bind (device_read Console) (λ (d : DeviceOf Console). done (record d { media = with_line d.media line }))) ∷ []

-- a patch: a storage key leaves the fetch bit of its block, and a fetch bit the key. A fetch bit is not stored where fetches are not protected
abbrev pub block_store : ℕ → (ℕ → ℕ) → List Store
block_store block with_part = record { place = key_place block; value = read (key_place block) (λ key. done (with_part key)) } ∷ []

abbrev pub patch_stores : Profile → Patch → List Store
patch_stores p (Patch.Bytes at bytes) = byte_stores at (done bytes) 0 (length bytes)
patch_stores p (Patch.Register n word) = record { place = Register n; value = done word } ∷ []
patch_stores p (Patch.StorageKey at storage_key) = block_store (at / block_size) (λ key. with_fetch_bit storage_key (fetch_bit_of_block key))
patch_stores p (Patch.FetchBit at bit) =
    if p.fetch_protection then block_store (at / block_size) (λ key. with_fetch_bit (key_of_block key) bit) else []
patch_stores p (Patch.Psw psw) = record { place = Psw; value = done (current_psw psw) } ∷ []
