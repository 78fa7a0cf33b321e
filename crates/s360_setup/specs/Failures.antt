-- What the faults of the crates below are to a program (own profile). Want of memory is of no stream.
use Rattle.std.specs.Prelude.{◌≡◌, ◌⊎◌}
use Rattle.s360_device.specs.declared.fault.DeckFault.{DeckFault}
use Rattle.s360_device.specs.declared.fault.DeckFault.TheVariants as deck
use Rattle.s360_store.specs.declared.fault.StoreFault.{StoreFault}
use Rattle.s360_store.specs.declared.fault.StoreFault.TheVariants as storage
use Rattle.s360_tape.specs.declared.fault.TapeFault.{TapeFault}
use Rattle.s360_tape.specs.declared.fault.TapeFault.TheVariants as tape
use Rattle.s360_text.specs.declared.reading.ReadFault.{ReadFault}
use Rattle.s360_text.specs.declared.reading.ReadFault.TheVariants as read
use Rattle.s360_text.specs.declared.script_fault.ScriptFault.{ScriptFault}
use Rattle.s360_text.specs.declared.script_fault.ScriptFault.TheVariants as script
use Rattle.s360_setup.specs.declared.failure.Stream as stream
use Rattle.s360_setup.specs.declared.failure.Stream.TheVariants.{Reader, Tape0, Tape1, Script}
use Rattle.s360_setup.specs.declared.failure.Fault.TheVariants.{CannotRead, FileTooLong, ShortCard, ShortHeader, BadFlags, PartOutOfPlace}
use Rattle.s360_setup.specs.declared.failure.Fault.TheVariants.{ShortBlock, BlockTooLong, ReadFailed, ScriptTooLong, WriteFailed}
use Rattle.s360_setup.specs.declared.failure.Failure.{Failure}
use Rattle.s360_setup.specs.declared.failure.Failure.TheVariants.{StorageSize, Memory, Stream}

-- of reading the file of a stream
abbrev pub failure_of_read : stream.Stream → ReadFault → Failure
failure_of_read p read.Failed = Stream p CannotRead
failure_of_read p read.TooLong = Stream p FileTooLong
failure_of_read p read.Memory = Memory

abbrev pub failure_of_deck : DeckFault → Failure
failure_of_deck (deck.ShortCard at) = Stream Reader (ShortCard at)
failure_of_deck deck.Memory = Memory

-- of the file of a stream, as that of a tape
abbrev pub failure_of_tape : stream.Stream → TapeFault → Failure
failure_of_tape p (tape.ShortHeader at) = Stream p (ShortHeader at)
failure_of_tape p (tape.BadFlags at) = Stream p (BadFlags at)
failure_of_tape p (tape.PartOutOfPlace at) = Stream p (PartOutOfPlace at)
failure_of_tape p (tape.ShortBlock at) = Stream p (ShortBlock at)
failure_of_tape p (tape.BlockTooLong at) = Stream p (BlockTooLong at)
failure_of_tape p tape.Memory = Memory

abbrev pub failure_of_storage : StoreFault → Failure
failure_of_storage storage.Size = StorageSize
failure_of_storage storage.Memory = Memory

-- of carrying a script out
abbrev pub failure_of_script : ScriptFault → Failure
failure_of_script script.Read = Stream Script ReadFailed
failure_of_script script.TooLong = Stream Script ScriptTooLong
failure_of_script script.Write = Stream Script WriteFailed
failure_of_script script.Memory = Memory

-- the failures that reading the file of a stream, the reader's deck and a tape end with
abbrev pub IsFailureOf : stream.Stream → Failure → Type 0
IsFailureOf p failure = (fault : ReadFault) × (failure ≡ failure_of_read p fault)

abbrev pub IsDeckFailure : Failure → Type 0
IsDeckFailure failure = IsFailureOf Reader failure ⊎ ((fault : DeckFault) × (failure ≡ failure_of_deck fault))

abbrev pub IsTapeFailure : stream.Stream → Failure → Type 0
IsTapeFailure p failure = IsFailureOf p failure ⊎ ((fault : TapeFault) × (failure ≡ failure_of_tape p fault))

abbrev pub IsStorageFailure : Failure → Type 0
IsStorageFailure failure = (fault : StoreFault) × (failure ≡ failure_of_storage fault)

-- the failures that setting the machine up ends with
abbrev pub IsSetUpFailure : Failure → Type 0
IsSetUpFailure failure = IsDeckFailure failure ⊎ (IsTapeFailure Tape0 failure ⊎ (IsTapeFailure Tape1 failure ⊎ IsStorageFailure failure))

-- those that carrying out a script ends with
abbrev pub IsScriptFailure : Failure → Type 0
IsScriptFailure failure = (fault : ScriptFault) × (failure ≡ failure_of_script fault)

-- those that carrying out the script in a file that is named ends with
abbrev pub IsAnsweringFailure : Failure → Type 0
IsAnsweringFailure failure = (failure ≡ Stream Script CannotRead) ⊎ IsScriptFailure failure
