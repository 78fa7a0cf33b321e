-- The 1403 printer. Its commands are modelled on its component description; its pages, when it tells of their end, and
-- its sense bytes are the own profile.
use Rattle.std.specs.Prelude.{ℕ, List, [], ◌∷◌, ◌++◌}
use Rattle.std.specs.Option.{option_map_or}
use Rattle.s360_device.specs.Sense.{no_sense, command_reject}
use Rattle.s360_device.specs.declared.device_with.DeviceWith.{DeviceWith}
use Rattle.s360_device.specs.Rows.{Row, refused, output, control, Table}
use Rattle.s360_model.specs.Tables.{entry_in}
use Rattle.s360_print.specs.declared.carriage.CarriageMotion.{CarriageMotion}
use Rattle.s360_print.specs.declared.paper.Record.{Record}
use Rattle.s360_print.specs.declared.printer_command.PrinterCommand.{PrinterCommand}
use Rattle.s360_print.specs.declared.printer_command.PrinterCommand.TheVariants.{Print, Move}
use Rattle.s360_print.specs.Positions.{Position, first_position}
use Rattle.s360_print.specs.Carriage.{position_after, passes_end}
use Rattle.s360_print.specs.Paper.{line_width, print_line}
use Rattle.s360_print.specs.PrinterCommands.{printer_commands}

-- the lines that were printed, in their order, and where the carriage stands
pub record PrinterMedia : Type 0 where
  pub records : List Record
  pub position : Position

abbrev pub Printer : Type 0
Printer = DeviceWith PrinterMedia

-- a new printer
abbrev pub new_printer : Printer
new_printer = record { sense = no_sense; media = record { records = []; position = first_position } }

-- a line with these bytes, printed where the carriage stands
abbrev pub record_at : Position → List ℕ → Record
record_at p bytes = record { page = p.page; line = p.line; bytes = print_line bytes }

-- it prints before it moves the carriage
abbrev pub printed : PrinterMedia → CarriageMotion → List ℕ → PrinterMedia
printed m motion bytes = record { records = m.records ++ record_at m.position bytes ∷ []; position = position_after m.position motion }

abbrev pub row_of_printer_command : PrinterMedia → PrinterCommand → Row PrinterMedia
row_of_printer_command m (Print motion) = output line_width (printed m motion) (passes_end m.position motion)
row_of_printer_command m (Move motion) = control (record m { position = position_after m.position motion }) (passes_end m.position motion)

abbrev pub printer_row : PrinterMedia → ℕ → Row PrinterMedia
printer_row m code = option_map_or (row_of_printer_command m) (entry_in printer_commands code) (refused command_reject)

abbrev pub printer_table : Table PrinterMedia
printer_table = record { rows = printer_row; sense_bytes = 1 }
