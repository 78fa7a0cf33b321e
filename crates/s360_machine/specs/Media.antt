-- The devices with room in them, as the whole devices, and the tapes by their addresses (kept).
use Rattle.std.specs.Prelude.{Option, Some, None, [], ◌∷◌}
use Rattle.s360_device.specs.DeviceChanges.{bare}
use Rattle.s360_tape.specs.WholeTape.{WholeTape}
use Rattle.s360_channel.specs.declared.configured_unit.ConfiguredUnit.{ConfiguredUnit}
use Rattle.s360_channel.specs.declared.configured_unit.ConfiguredUnit.TheVariants.{Tape0, Tape1}
use Rattle.s360_machine.specs.declared.media.Devices.{Devices}
use Rattle.s360_machine.specs.Machine.{Spare, WholeMedia}

abbrev pub media_of : Devices → WholeMedia
media_of d = record {
  reader = bare d.reader;
  punch = bare d.punch;
  printer = bare d.printer;
  console = bare d.console;
  tape0 = bare d.tape0;
  tape1 = bare d.tape1;
}

-- the room in them
abbrev pub room_of : Devices → Spare
room_of d = d.reader.media.room ∷ d.punch.media.room ∷ d.printer.media.room ∷ d.console.media.room ∷ d.tape0.media.room ∷ d.tape1.media.room ∷ []

-- the tape of a unit, if it is one
abbrev pub tape_of : WholeMedia → Option ConfiguredUnit → Option WholeTape
tape_of m (Some Tape0) = Some m.tape0
tape_of m (Some Tape1) = Some m.tape1
tape_of m unit = None
