-- What an event is, without what it carries.
use Rattle.s360_machine.specs.declared.event.Event.{Event}
use Rattle.s360_machine.specs.declared.event.Event.TheVariants.{Cpu, Channel, Tick, Key, Patch as patch}
use Rattle.s360_machine.specs.declared.event.Patch.{Patch}
use Rattle.s360_machine.specs.declared.event.Patch.TheVariants.{Bytes, Register, StorageKey, FetchBit, Psw}
use Rattle.s360_machine.specs.declared.event_kind.EventKind.{EventKind}
use Rattle.s360_machine.specs.declared.event_kind.EventKind.TheVariants as event_kind
use Rattle.s360_machine.specs.declared.event_kind.KeyKind.{KeyKind}
use Rattle.s360_machine.specs.declared.event_kind.KeyKind.TheVariants as key_kind
use Rattle.s360_machine.specs.declared.event_kind.PatchKind.{PatchKind}
use Rattle.s360_machine.specs.declared.event_kind.PatchKind.TheVariants as patch_kind
use Rattle.s360_machine.specs.declared.operator.Key.{Key as OperatorKey}
use Rattle.s360_machine.specs.declared.operator.Key.TheVariants.{Start, Stop, Reset, Interrupt, EndOfFile, Request, Enter, Load}

abbrev pub kind_of_key : OperatorKey → KeyKind
kind_of_key Start = key_kind.Start
kind_of_key Stop = key_kind.Stop
kind_of_key Reset = key_kind.Reset
kind_of_key Interrupt = key_kind.Interrupt
kind_of_key EndOfFile = key_kind.EndOfFile
kind_of_key Request = key_kind.Request
kind_of_key (Enter line) = key_kind.Enter
kind_of_key (Load unit) = key_kind.Load unit

abbrev pub kind_of_patch : Patch → PatchKind
kind_of_patch (Bytes at bytes) = patch_kind.Bytes
kind_of_patch (Register n word) = patch_kind.Register
kind_of_patch (StorageKey at storage_key) = patch_kind.StorageKey
kind_of_patch (FetchBit at bit) = patch_kind.FetchBit
kind_of_patch (Psw doubleword) = patch_kind.Psw

abbrev pub kind_of_event : Event → EventKind
kind_of_event Cpu = event_kind.Cpu
kind_of_event (Channel unit) = event_kind.Channel unit
kind_of_event Tick = event_kind.Tick
kind_of_event (Key k) = event_kind.Key (kind_of_key k)
kind_of_event (patch p) = event_kind.Patch (kind_of_patch p)
