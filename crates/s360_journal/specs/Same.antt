-- Whether events are the same, with all that they carry (kept).
use Rattle.std.specs.Prelude.{Bool, true, false, ◌&&◌, nat_eq, bytes_eq}
use Rattle.std.specs.Bool.{beq}
use Rattle.s360_word.specs.declared.unit.Unit.{Unit}
use Rattle.s360_machine.specs.declared.event.Event.{Event}
use Rattle.s360_machine.specs.declared.event.Event.TheVariants.{Cpu, Channel, Tick, Key as key, Patch as patch}
use Rattle.s360_machine.specs.declared.event.Patch.{Patch}
use Rattle.s360_machine.specs.declared.event.Patch.TheVariants.{Bytes, Register, StorageKey, FetchBit, Psw}
use Rattle.s360_machine.specs.declared.operator.Key.{Key}
use Rattle.s360_machine.specs.declared.operator.Key.TheVariants.{Start, Stop, Reset, Interrupt, EndOfFile, Request, Enter, Load}

abbrev pub same_unit_address : Unit → Unit → Bool
same_unit_address u v = nat_eq u.0 v.0

abbrev pub same_key : Key → Key → Bool
same_key Start Start = true
same_key Stop Stop = true
same_key Reset Reset = true
same_key Interrupt Interrupt = true
same_key EndOfFile EndOfFile = true
same_key Request Request = true
same_key (Enter line) (Enter other) = bytes_eq line other
same_key (Load u) (Load v) = same_unit_address u v
same_key k l = false

abbrev pub same_patch : Patch → Patch → Bool
same_patch (Bytes at bytes) (Bytes to others) = nat_eq at to && bytes_eq bytes others
same_patch (Register r word) (Register s other) = nat_eq r s && nat_eq word other
same_patch (StorageKey at k) (StorageKey to l) = nat_eq at to && nat_eq k l
same_patch (FetchBit at on) (FetchBit to other) = nat_eq at to && beq on other
same_patch (Psw word) (Psw other) = nat_eq word other
same_patch p q = false

abbrev pub same_event : Event → Event → Bool
same_event Cpu Cpu = true
same_event Tick Tick = true
same_event (Channel u) (Channel v) = same_unit_address u v
same_event (key k) (key l) = same_key k l
same_event (patch p) (patch q) = same_patch p q
same_event e f = false
