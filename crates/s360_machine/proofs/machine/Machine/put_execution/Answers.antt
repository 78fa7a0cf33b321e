use Rattle.std.proofs.Common.{◌≡◌, ◌∙◌, refl, rules, option_map}
use Rattle.s360_device.specs.Differences.{same_punch, same_reader}
use Rattle.s360_device.specs.Punch.{punch_kind}
use Rattle.s360_device.specs.ReaderChanges.{reader_kind}
use Rattle.s360_device.proofs.DifferenceLemmas.{same_punch-Decides, same_reader-Decides}
use Rattle.s360_print.specs.ConsoleChanges.{console_kind}
use Rattle.s360_print.specs.Differences.{same_console, same_printer}
use Rattle.s360_print.specs.PrinterChanges.{printer_kind}
use Rattle.s360_print.proofs.DifferenceLemmas.{same_console-Decides, same_printer-Decides}
use Rattle.s360_tape.specs.Differences.{same_tape}
use Rattle.s360_tape.specs.WholeTape.{tape_kind}
use Rattle.s360_tape.proofs.DifferenceLemmas.{same_tape-Decides}
use Rattle.s360_machine.specs.declared.media.MediaChange.TheVariants.{Reader, Punch, Printer, Console, Tape0, Tape1}
use Rattle.s360_machine.specs.Media.{media_of}
use Rattle.s360_machine.proofs.IoLemmas.{IsMediaChangeTo-console, IsMediaChangeTo-printer, IsMediaChangeTo-punch, IsMediaChangeTo-reader, IsMediaChangeTo-tape0, IsMediaChangeTo-tape1}
use Rattle.s360_machine.proofs.StepLemmas.{channel-event, device-step}
use Rattle.s360_machine.proofs.machine.Machine.put_execution.Goals as goal

pub returns-in_ok-step-in-Reader : goal.returns-in_ok-step-in-Reader
returns-in_ok-step-in-Reader c =
    let run = rw (c.storage-storage.ensures.storage, c.control-control.ensures.control) at c.in_ok-step-in-Reader.ensures
    in let change : c.map.result ≡ option_map (λ x. Reader x) c.in_ok-step-in-Reader.step.change = search rules
    in let control = rw (← c.put_unit.ensures.control) at c.requires.leaves.control
    in let media = IsMediaChangeTo-reader (media_of c.self.inside.devices) _ _ (device-step reader_kind same_reader same_reader-Decides c.self.inside.devices.reader _ _ _ run)
    in channel-event _ _ _ _ _ _ _ _ _ c.self.view_is c.control-control.ensures.each run control c.put_unit.ensures.units (c.put_unit.ensures.media ∙ change) (rw c.in-Reader.is refl) (rw c.in-Reader.is (rw c.in-Reader.is at media))

pub returns-in_ok-step-in-Punch : goal.returns-in_ok-step-in-Punch
returns-in_ok-step-in-Punch c =
    let run = rw (c.storage-storage.ensures.storage, c.control-control.ensures.control) at c.in_ok-step-in-Punch.ensures
    in let change : c.map-in-Punch.result ≡ option_map (λ x. Punch x) c.in_ok-step-in-Punch.step.change = search rules
    in let control = rw (← c.put_unit-in-Punch.ensures.control) at c.requires.leaves.control
    in let media = IsMediaChangeTo-punch (media_of c.self.inside.devices) _ _ (device-step punch_kind same_punch same_punch-Decides c.self.inside.devices.punch _ _ _ run)
    in channel-event _ _ _ _ _ _ _ _ _ c.self.view_is c.control-control.ensures.each run control c.put_unit-in-Punch.ensures.units (c.put_unit-in-Punch.ensures.media ∙ change) (rw c.in-Punch.is refl) (rw c.in-Punch.is (rw c.in-Punch.is at media))

pub returns-in_ok-step-in-Printer : goal.returns-in_ok-step-in-Printer
returns-in_ok-step-in-Printer c =
    let run = rw (c.storage-storage.ensures.storage, c.control-control.ensures.control) at c.in_ok-step-in-Printer.ensures
    in let change : c.map-in-Printer.result ≡ option_map (λ x. Printer x) c.in_ok-step-in-Printer.step.change = search rules
    in let control = rw (← c.put_unit-in-Printer.ensures.control) at c.requires.leaves.control
    in let media = IsMediaChangeTo-printer (media_of c.self.inside.devices) _ _ (device-step printer_kind same_printer same_printer-Decides c.self.inside.devices.printer _ _ _ run)
    in channel-event _ _ _ _ _ _ _ _ _ c.self.view_is c.control-control.ensures.each run control c.put_unit-in-Printer.ensures.units (c.put_unit-in-Printer.ensures.media ∙ change) (rw c.in-Printer.is refl) (rw c.in-Printer.is (rw c.in-Printer.is at media))

pub returns-in_ok-step-in-Console : goal.returns-in_ok-step-in-Console
returns-in_ok-step-in-Console c =
    let run = rw (c.storage-storage.ensures.storage, c.control-control.ensures.control) at c.in_ok-step-in-Console.ensures
    in let change : c.map-in-Console.result ≡ option_map (λ x. Console x) c.in_ok-step-in-Console.step.change = search rules
    in let control = rw (← c.put_unit-in-Console.ensures.control) at c.requires.leaves.control
    in let media = IsMediaChangeTo-console (media_of c.self.inside.devices) _ _ (device-step console_kind same_console same_console-Decides c.self.inside.devices.console _ _ _ run)
    in channel-event _ _ _ _ _ _ _ _ _ c.self.view_is c.control-control.ensures.each run control c.put_unit-in-Console.ensures.units (c.put_unit-in-Console.ensures.media ∙ change) (rw c.in-Console.is refl) (rw c.in-Console.is (rw c.in-Console.is at media))

pub returns-in_ok-step-in-Tape0 : goal.returns-in_ok-step-in-Tape0
returns-in_ok-step-in-Tape0 c =
    let run = rw (c.storage-storage.ensures.storage, c.control-control.ensures.control) at c.in_ok-step-in-Tape0.ensures
    in let change : c.map-in-Tape0.result ≡ option_map (λ x. Tape0 x) c.in_ok-step-in-Tape0.step.change = search rules
    in let control = rw (← c.put_unit-in-Tape0.ensures.control) at c.requires.leaves.control
    in let media = IsMediaChangeTo-tape0 (media_of c.self.inside.devices) _ _ (device-step tape_kind same_tape same_tape-Decides c.self.inside.devices.tape0 _ _ _ run)
    in channel-event _ _ _ _ _ _ _ _ _ c.self.view_is c.control-control.ensures.each run control c.put_unit-in-Tape0.ensures.units (c.put_unit-in-Tape0.ensures.media ∙ change) (rw c.in-Tape0.is refl) (rw c.in-Tape0.is (rw c.in-Tape0.is at media))

pub returns-in_ok-step-in-Tape1 : goal.returns-in_ok-step-in-Tape1
returns-in_ok-step-in-Tape1 c =
    let run = rw (c.storage-storage.ensures.storage, c.control-control.ensures.control) at c.in_ok-step-in-Tape1.ensures
    in let change : c.map-in-Tape1.result ≡ option_map (λ x. Tape1 x) c.in_ok-step-in-Tape1.step.change = search rules
    in let control = rw (← c.put_unit-in-Tape1.ensures.control) at c.requires.leaves.control
    in let media = IsMediaChangeTo-tape1 (media_of c.self.inside.devices) _ _ (device-step tape_kind same_tape same_tape-Decides c.self.inside.devices.tape1 _ _ _ run)
    in channel-event _ _ _ _ _ _ _ _ _ c.self.view_is c.control-control.ensures.each run control c.put_unit-in-Tape1.ensures.units (c.put_unit-in-Tape1.ensures.media ∙ change) (rw c.in-Tape1.is refl) (rw c.in-Tape1.is (rw c.in-Tape1.is at media))
