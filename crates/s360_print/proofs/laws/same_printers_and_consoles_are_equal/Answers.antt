use Rattle.s360_print.proofs.DifferenceLemmas.{same_console-Decides, same_printer-Decides}
use Rattle.s360_print.proofs.laws.same_printers_and_consoles_are_equal.Goals as goal

pub returns-clause-printer : goal.returns-clause-printer
returns-clause-printer c = same_printer-Decides

pub returns-clause-console : goal.returns-clause-console
returns-clause-console c = same_console-Decides
