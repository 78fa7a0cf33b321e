-- Why an event is refused, by the event and the storage size alone.
use Rattle.std.specs.Prelude.{ℕ, ◌+◌, Option, Some, None, is_none, length, nat_lt, if◌then◌else◌}
use Rattle.s360_machine.specs.declared.event.Event.{Event}
use Rattle.s360_machine.specs.declared.event.Event.TheVariants.{Channel, Key, Patch as patch}
use Rattle.s360_machine.specs.declared.event.Patch.{Patch}
use Rattle.s360_machine.specs.declared.event.Patch.TheVariants.{Bytes, Register, StorageKey, FetchBit, Psw}
use Rattle.s360_machine.specs.declared.operator.Key.{Key as OperatorKey}
use Rattle.s360_machine.specs.declared.operator.Key.TheVariants.{Enter, Load}
use Rattle.s360_machine.specs.declared.refusal.Refusal.{Refusal}
use Rattle.s360_machine.specs.declared.refusal.Refusal.TheVariants.{Memory, OutsideStorage, NoSuchUnit, LineTooLong, PatchTooLong, JournalFull}
use Rattle.s360_word.specs.declared.unit.Unit.{Unit}
use Rattle.s360_print.specs.TypedLines.{line_limit}
use Rattle.s360_channel.specs.ConfiguredUnits.{unit_at}

-- the numbers by which refusals are printed
abbrev pub number_of_refusal : Refusal → ℕ
number_of_refusal Memory = 1
number_of_refusal OutsideStorage = 2
number_of_refusal NoSuchUnit = 3
number_of_refusal LineTooLong = 4
number_of_refusal PatchTooLong = 5
number_of_refusal JournalFull = 6

-- too long comes before outside
abbrev pub refusal_of_patch : ℕ → Patch → Option Refusal
refusal_of_patch size (Bytes at bytes) =
    if nat_lt 256 (length bytes) then Some PatchTooLong else (if nat_lt size (at + length bytes) then Some OutsideStorage else None)
refusal_of_patch size (Register n word) = None
refusal_of_patch size (StorageKey at storage_key) = if nat_lt at size then None else Some OutsideStorage
refusal_of_patch size (FetchBit at bit) = if nat_lt at size then None else Some OutsideStorage
refusal_of_patch size (Psw psw) = None

-- a unit that the machine lacks
abbrev pub refusal_of_unit : Unit → Option Refusal
refusal_of_unit unit = if is_none (unit_at unit.0) then Some NoSuchUnit else None

-- a line that is entered has at most 256 bytes, and the machine loads from a unit that it has
abbrev pub refusal_of_key : OperatorKey → Option Refusal
refusal_of_key (Enter line) = if nat_lt line_limit (length line) then Some LineTooLong else None
refusal_of_key (Load unit) = refusal_of_unit unit
refusal_of_key other = None

abbrev pub refusal_of : ℕ → Event → Option Refusal
refusal_of size (patch p) = refusal_of_patch size p
refusal_of size (Key k) = refusal_of_key k
refusal_of size (Channel unit) = refusal_of_unit unit
refusal_of size event = None
