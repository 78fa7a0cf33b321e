-- The file that is asked for of a record (own profile).
use Rattle.std.specs.Prelude.{ℕ, ◌/◌, Option, Some, List, [], length}
use Rattle.s360_channel.specs.declared.configured_unit.ConfiguredUnit.{ConfiguredUnit}
use Rattle.s360_channel.specs.declared.configured_unit.ConfiguredUnit.TheVariants as unit
use Rattle.s360_model.specs.Cards.{columns}
use Rattle.s360_machine.specs.Machine.{Machine}
use Rattle.s360_journal.specs.Recorded.{Recorded, session_of}
use Rattle.s360_journal.specs.Standing.{machine_of}
use Rattle.s360_tape.specs.Images.{tape_file}
use Rattle.s360_trace.specs.Trace.{trace}
use Rattle.s360_saving.specs.declared.file.Amount.{Amount}
use Rattle.s360_saving.specs.declared.file.Amount.TheVariants.{Pages, Cards, Lines, Bytes}
use Rattle.s360_saving.specs.declared.file.FileToWrite.{FileToWrite}
use Rattle.s360_saving.specs.declared.saving.Medium.{Medium}
use Rattle.s360_saving.specs.declared.saving.Medium.TheVariants.{Printer, Punch, Console, Tape0, Tape1, Trace}
use Rattle.s360_saving.specs.Cards.{punch_file}
use Rattle.s360_saving.specs.ConsoleLines.{console_file, line_count}
use Rattle.s360_saving.specs.Pages.{page_count, pages_file}
use Rattle.s360_saving.specs.Reading.{Asked}

-- a tape's file has its blocks and marks; that of a unit with no tape has nothing
abbrev pub tape_at : Machine → Option ConfiguredUnit → List ℕ
tape_at m (Some unit.Tape0) = tape_file m.media.tape0.media.items
tape_at m (Some unit.Tape1) = tape_file m.media.tape1.media.items
tape_at m u = []

-- the machine that a record stands at
abbrev pub machine_in : Recorded → Machine
machine_in r = machine_of (session_of r)

abbrev pub bytes_of : Recorded → Medium → List ℕ
bytes_of r Printer = pages_file (machine_in r).media.printer.media.records
bytes_of r (Punch stacker) = punch_file stacker (machine_in r).media.punch.media
bytes_of r Console = console_file (machine_in r).media.console.media
bytes_of r Tape0 = tape_file (machine_in r).media.tape0.media.items
bytes_of r Tape1 = tape_file (machine_in r).media.tape1.media.items
bytes_of r (Trace from to) = trace r from to

-- how much a file of these bytes has
abbrev pub amount_of : Machine → Medium → List ℕ → Amount
amount_of m Printer file = Pages (page_count m.media.printer.media.records)
amount_of m (Punch stacker) file = Cards (length file / columns)
amount_of m Console file = Lines (line_count file)
amount_of m Tape0 file = Bytes (length file)
amount_of m Tape1 file = Bytes (length file)
amount_of m (Trace from to) file = Lines (line_count file)

abbrev pub file_for : Recorded → Asked → FileToWrite
file_for r a = record {
  name = a.name;
  over = a.over;
  bytes = bytes_of r a.what;
  amount = amount_of (machine_in r) a.what (bytes_of r a.what);
}
