use Rattle.std.proofs.Common.{◌≡◌, Some, IfOk, ap, subst, refl, inl, inr}
use Rattle.s360_device.specs.DeviceChanges.{bare}
use Rattle.s360_device.specs.Punch.{punch_table}
use Rattle.s360_device.specs.Reader.{reader_table}
use Rattle.s360_print.specs.Console.{console_table}
use Rattle.s360_print.specs.Printer.{printer_table}
use Rattle.s360_tape.specs.Tape.{tape_table}
use Rattle.s360_tape.specs.WholeTape.{seen as seen_tape}
use Rattle.s360_channel.specs.declared.configured_unit.ConfiguredUnit.TheVariants.{Reader, Punch, Printer, Console, Tape0, Tape1}
use Rattle.s360_channel.specs.ConfiguredUnits.{unit_at}
use Rattle.s360_channel.specs.Execution.{DeviceView}
use Rattle.s360_machine.specs.Machine.{WholeMedia, Media, seen}
use Rattle.s360_machine.specs.Media.{tape_of}
use Rattle.s360_source.specs.Channels.{IsExecuted}
use Rattle.s360_source.proofs.ChannelWordLemmas.{device-seen, tape-is}
use Rattle.s360_source.proofs.channel_word.executed_at.Goals as goal

pub returns-in-Reader : goal.returns-in-Reader
returns-in-Reader c =
    subst (λ (d : DeviceView). IfOk c.executed_by.result (λ x. IsExecuted d c.args.unit c.args.program.now (seen c.args.machine.now.whole) x.0 x.1))
    (device-seen reader_table (bare c.reader.result.now) c.args.machine.now.whole.media.reader c.args.unit Reader (seen c.args.machine.now.whole).media
    c.in-Reader.is c.reader.ensures refl)
    c.executed_by.ensures

pub returns-in-Punch : goal.returns-in-Punch
returns-in-Punch c =
    subst (λ (d : DeviceView). IfOk c.executed_by-in-Punch.result (λ x. IsExecuted d c.args.unit c.args.program.now (seen c.args.machine.now.whole) x.0 x.1))
    (device-seen punch_table (bare c.punch.result.now) c.args.machine.now.whole.media.punch c.args.unit Punch (seen c.args.machine.now.whole).media
    c.in-Punch.is c.punch.ensures refl)
    c.executed_by-in-Punch.ensures

pub returns-in-Printer : goal.returns-in-Printer
returns-in-Printer c =
    subst (λ (d : DeviceView). IfOk c.executed_by-in-Printer.result (λ x. IsExecuted d c.args.unit c.args.program.now (seen c.args.machine.now.whole) x.0 x.1))
    (device-seen printer_table (bare c.printer.result.now) c.args.machine.now.whole.media.printer c.args.unit Printer (seen c.args.machine.now.whole).media
    c.in-Printer.is c.printer.ensures refl)
    c.executed_by-in-Printer.ensures

pub returns-in-Console : goal.returns-in-Console
returns-in-Console c =
    subst (λ (d : DeviceView). IfOk c.executed_by-in-Console.result (λ x. IsExecuted d c.args.unit c.args.program.now (seen c.args.machine.now.whole) x.0 x.1))
    (device-seen console_table (bare c.console.result.now) c.args.machine.now.whole.media.console c.args.unit Console (seen c.args.machine.now.whole).media
    c.in-Console.is c.console.ensures refl)
    c.executed_by-in-Console.ensures

pub returns-in-Some : goal.returns-in-Some
returns-in-Some c =
    let w : WholeMedia = c.args.machine.now.whole.media
    in let media : Media = (seen c.args.machine.now.whole).media
    in let held : Some (bare c.in-Some.tape.now) ≡ tape_of w (unit_at c.unit.result.0) = rw c.in-Some.is at c.tape.ensures
    in subst (λ (d : DeviceView). IfOk c.executed_by-in-Some.result (λ x. IsExecuted d c.args.unit c.args.program.now (seen c.args.machine.now.whole) x.0 x.1))
    (elim c.in-Tape0.is [
      | inl is ↦ device-seen tape_table (seen_tape (bare c.in-Some.tape.now)) (seen_tape w.tape0) c.args.unit Tape0 media is
          (ap seen_tape (tape-is w (bare c.in-Some.tape.now) w.tape0 c.args.unit Tape0 c.unit.result c.unit.ensures is held refl)) refl
      | inr is ↦ device-seen tape_table (seen_tape (bare c.in-Some.tape.now)) (seen_tape w.tape1) c.args.unit Tape1 media is
          (ap seen_tape (tape-is w (bare c.in-Some.tape.now) w.tape1 c.args.unit Tape1 c.unit.result c.unit.ensures is held refl)) refl
    ])
    c.executed_by-in-Some.ensures
