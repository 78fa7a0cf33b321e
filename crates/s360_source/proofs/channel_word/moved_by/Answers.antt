use Rattle.std.proofs.Common.{◌≡◌, ◌∙◌, ap, subst, sym}
use Rattle.s360_model.specs.Storage.{Storage}
use Rattle.s360_device.specs.Transfers.{IsInputOf}
use Rattle.s360_device.specs.declared.device.Begin.{Begin}
use Rattle.s360_channel.specs.declared.fetching.Fetched.{Fetched}
use Rattle.s360_channel.specs.{Execution.DeviceView, Execution.command_with, Execution.word_at_hand, Programs.next_ccw, Steps.device_view}
use Rattle.s360_machine.specs.Machine.{Machine, seen}
use Rattle.s360_source.specs.Channels.{IsMovedAt, IsMovedBy}
use Rattle.s360_source.proofs.channel_word.moved_by.Goals as goal

pub returns-in-Whole : goal.returns-in-Whole
returns-in-Whole g c =
    let d : DeviceView = device_view g.D.Device c.args.device.now
    in let m : Machine = seen c.args.machine.now.whole
    in let begun : c.begin-begin.result ≡ d.begin (command_with c.args.program.now.progress c.in-Whole.ccw)
    = c.begin-begin.ensures.begun ∙ ap d.begin c.command_with.ensures
    in subst (λ (f : Fetched). IsMovedAt m d c.args.program.now f c.begun.result)
    (sym c.in-Whole.is ∙ c.next_ccw.ensures ∙ ap (λ (s : Storage). next_ccw s c.args.program.now) c.storage.ensures)
    (subst (λ (b : Begin). IsMovedBy m (word_at_hand d c.args.program.now c.in-Whole.field-0 c.in-Whole.ccw) b c.begun.result) begun
    (c.begun.ensures d c.in-Whole.field-0
    (subst (λ k. IsInputOf c.begin-begin.result (d.input k)) c.command_with.ensures c.begin-begin.ensures.input)))
