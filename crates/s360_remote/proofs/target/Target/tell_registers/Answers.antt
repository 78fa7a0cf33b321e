use Rattle.std.proofs.Common.{◌≡◌, ◌∙◌, ap}
use Rattle.s360_remote.specs.Registers.{words_of_machine}
use Rattle.s360_remote.specs.Serving.{machine_now}
use Rattle.s360_remote.proofs.target.Target.tell_registers.Goals as goal

pub returns : goal.returns
returns c =
    let words : c.words_of_machine.result ≡ words_of_machine (machine_now c.args.self.now) = c.words_of_machine.ensures ∙ ap words_of_machine c.machine.ensures.rerun
    in rw words at c.push_packet.ensures
