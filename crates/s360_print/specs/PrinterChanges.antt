-- What a command does to the printer's media, exchanged with them (kept).
use Rattle.s360_device.specs.Kinds.{Kind}
use Rattle.s360_device.specs.Motions.{CanMove, items_put, after_motion, motion_back}
use Rattle.s360_print.specs.declared.printer_change.PrinterChange.{PrinterChange}
use Rattle.s360_print.specs.Printer.{PrinterMedia, printer_table}

abbrev pub printer_kind : Kind PrinterMedia PrinterMedia PrinterChange
printer_kind = record {
  see = λ p. p;
  table = printer_table;
  can = λ p x. CanMove p.records x.motion;
  after = λ p x. record { records = after_motion p.records x.motion; position = x.position };
  back = λ p x. record { motion = motion_back p.records x.motion; position = p.position };
  needs = λ x. items_put x.motion;
}
