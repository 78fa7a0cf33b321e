-- What an event alters of the devices: one of them, by an exchange with its change (kept). The same exchange done again takes
-- it back.
use Rattle.std.specs.Prelude.{ℕ, Option, Some, None, List, [], ◌∷◌}
use Rattle.s360_device.specs.DeviceChanges.{CanSwapDevice, device_after_swap, device_change_after_swap, device_needs}
use Rattle.s360_device.specs.Punch.{punch_kind}
use Rattle.s360_device.specs.ReaderChanges.{reader_kind}
use Rattle.s360_print.specs.ConsoleChanges.{console_kind}
use Rattle.s360_print.specs.PrinterChanges.{printer_kind}
use Rattle.s360_tape.specs.WholeTape.{tape_kind}
use Rattle.s360_store.specs.declared.place.Place.{Place}
use Rattle.s360_channel.specs.declared.configured_unit.ConfiguredUnit.{ConfiguredUnit}
use Rattle.s360_channel.specs.declared.configured_unit.ConfiguredUnit.TheVariants as unit
use Rattle.s360_machine.specs.Differences.{media_place}
use Rattle.s360_machine.specs.declared.media.MediaChange.{MediaChange}
use Rattle.s360_machine.specs.declared.media.MediaChange.TheVariants.{Reader, Punch, Printer, Console, Tape0, Tape1}
use Rattle.s360_machine.specs.Machine.{WholeMedia}

-- the unit whose device it is, and the place of its media
abbrev pub unit_of_change : MediaChange → ConfiguredUnit
unit_of_change (Reader x) = unit.Reader
unit_of_change (Punch x) = unit.Punch
unit_of_change (Printer x) = unit.Printer
unit_of_change (Console x) = unit.Console
unit_of_change (Tape0 x) = unit.Tape0
unit_of_change (Tape1 x) = unit.Tape1

abbrev pub places_of_media : Option MediaChange → List Place
places_of_media None = []
places_of_media (Some x) = media_place (unit_of_change x) ∷ []

-- it can be exchanged with the devices
abbrev pub CanSwapMedia : WholeMedia → MediaChange → Type 0
CanSwapMedia m (Reader x) = CanSwapDevice reader_kind m.reader x
CanSwapMedia m (Punch x) = CanSwapDevice punch_kind m.punch x
CanSwapMedia m (Printer x) = CanSwapDevice printer_kind m.printer x
CanSwapMedia m (Console x) = CanSwapDevice console_kind m.console x
CanSwapMedia m (Tape0 x) = CanSwapDevice tape_kind m.tape0 x
CanSwapMedia m (Tape1 x) = CanSwapDevice tape_kind m.tape1 x

-- the devices after the exchange, and the change
abbrev pub media_after_swap : WholeMedia → MediaChange → WholeMedia
media_after_swap m (Reader x) = record m { reader = device_after_swap reader_kind m.reader x }
media_after_swap m (Punch x) = record m { punch = device_after_swap punch_kind m.punch x }
media_after_swap m (Printer x) = record m { printer = device_after_swap printer_kind m.printer x }
media_after_swap m (Console x) = record m { console = device_after_swap console_kind m.console x }
media_after_swap m (Tape0 x) = record m { tape0 = device_after_swap tape_kind m.tape0 x }
media_after_swap m (Tape1 x) = record m { tape1 = device_after_swap tape_kind m.tape1 x }

abbrev pub media_change_after_swap : WholeMedia → MediaChange → MediaChange
media_change_after_swap m (Reader x) = Reader (device_change_after_swap reader_kind m.reader x)
media_change_after_swap m (Punch x) = Punch (device_change_after_swap punch_kind m.punch x)
media_change_after_swap m (Printer x) = Printer (device_change_after_swap printer_kind m.printer x)
media_change_after_swap m (Console x) = Console (device_change_after_swap console_kind m.console x)
media_change_after_swap m (Tape0 x) = Tape0 (device_change_after_swap tape_kind m.tape0 x)
media_change_after_swap m (Tape1 x) = Tape1 (device_change_after_swap tape_kind m.tape1 x)

-- for so many cards, lines or slots it needs room
abbrev pub media_needs : MediaChange → ℕ
media_needs (Reader x) = device_needs reader_kind x
media_needs (Punch x) = device_needs punch_kind x
media_needs (Printer x) = device_needs printer_kind x
media_needs (Console x) = device_needs console_kind x
media_needs (Tape0 x) = device_needs tape_kind x
media_needs (Tape1 x) = device_needs tape_kind x
