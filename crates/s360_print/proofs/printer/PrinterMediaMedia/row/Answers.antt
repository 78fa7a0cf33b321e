use Rattle.std.proofs.Common.{refl}
use Rattle.s360_print.specs.Printer.{printed}
use Rattle.s360_print.proofs.printer.PrinterMediaMedia.row.Goals as goal

pub returns-in-Some-Print : goal.returns-in-Some-Print
returns-in-Some-Print c = rw (← c.self.view_is, ← c.new.ensures.row, c.in-Some-Print.is, c.in-Some-Print.field-0-is, c.passes_end.ensures) (printed _ c.in-Some-Print.motion, refl)
