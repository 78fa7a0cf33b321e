use Rattle.std.proofs.Common.{◌≡◌, ◌∙◌, sym, true, false}
use Rattle.s360_machine.specs.Media.{media_of}
use Rattle.s360_machine.proofs.IoLemmas.{end-key-pressed, end-key-stays}
use Rattle.s360_machine.proofs.media.Devices.change_of_end_key.Goals as goal

pub returns-then-end_of_file : goal.returns-then-end_of_file
returns-then-end_of_file c =
    let on : c.args.self.now.reader.media.media.end_of_file ≡ true = rw c.media.ensures at (sym c.end_of_file.ensures ∙ c.if-end_of_file.true)
    in end-key-stays (media_of c.args.self.now) on

pub returns : goal.returns
returns c =
    let off : c.args.self.now.reader.media.media.end_of_file ≡ false = rw c.media.ensures at (sym c.end_of_file.ensures ∙ c.if-end_of_file.false)
    in end-key-pressed (media_of c.args.self.now) c.plan_end_key.result off c.plan_end_key.ensures.can c.plan_end_key.ensures.pressed c.plan_end_key.ensures.back
