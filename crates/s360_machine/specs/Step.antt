-- What an event makes of the machine.
use Rattle.std.specs.Prelude.{◌/◌, Option, Some, None, Result, Ok, Err}
use Rattle.s360_model.specs.Core.{core_with_bytes, core_with_fetch_bit, core_with_psw, core_with_storage_key, core_with_word}
use Rattle.s360_model.specs.Psw.{current_psw}
use Rattle.s360_model.specs.Storage.{block_size}
use Rattle.s360_machine.specs.declared.event.Event.{Event}
use Rattle.s360_machine.specs.declared.event.Event.TheVariants.{Cpu, Channel, Tick, Key, Patch as patch}
use Rattle.s360_machine.specs.declared.event.Patch.{Patch}
use Rattle.s360_machine.specs.declared.event.Patch.TheVariants.{Bytes, Register, StorageKey, FetchBit, Psw}
use Rattle.s360_machine.specs.declared.refusal.Refusal.{Refusal}
use Rattle.s360_machine.specs.ChannelEvents.{after_channel_event}
use Rattle.s360_machine.specs.Cpu.{after_cpu}
use Rattle.s360_machine.specs.Machine.{Machine, storage_size}
use Rattle.s360_machine.specs.Operator.{after_key}
use Rattle.s360_machine.specs.Refusals.{refusal_of}
use Rattle.s360_machine.specs.Timer.{after_tick}

-- a patch ignores protection and raises no condition; a PSW keeps no interruption code and no
-- length, and a storage key and a fetch bit are those of the address's block. A fetch bit changes
-- nothing where fetches are not protected
abbrev pub after_patch : Machine → Patch → Machine
after_patch m (Bytes at bytes) = record m { core = core_with_bytes at bytes m.core }
after_patch m (Register n word) = record m { core = core_with_word n word m.core }
after_patch m (StorageKey at storage_key) = record m { core = core_with_storage_key (at / block_size) storage_key m.core }
after_patch m (FetchBit at bit) = record m { core = core_with_fetch_bit (at / block_size) bit m.core }
after_patch m (Psw psw) = record m { core = core_with_psw (current_psw psw) m.core }

-- the machine after an event that is not refused
abbrev pub after : Machine → Event → Machine
after m Cpu = after_cpu m
after m (Channel unit) = after_channel_event unit m
after m Tick = after_tick m
after m (Key k) = after_key m k
after m (patch p) = after_patch m p

abbrev pub step_to : Option Refusal → Machine → Result Machine Refusal
step_to (Some r) n = Err r
step_to None n = Ok n

-- the machine after an event, or its refusal
abbrev pub step : Machine → Event → Result Machine Refusal
step m e = step_to (refusal_of (storage_size m) e) (after m e)
