use Rattle.std.proofs.Common.{◌≡◌, ◌∙◌, Some, ap, sym}
use Rattle.s360_packet.specs.Target.{register_value}
use Rattle.s360_remote.specs.Registers.{words_of_machine}
use Rattle.s360_remote.specs.Serving.{machine_now}
use Rattle.s360_remote.proofs.target.Target.tell_register.Goals as goal

pub returns-in-Some : goal.returns-in-Some
returns-in-Some c =
    let words : c.words_of_machine.result ≡ words_of_machine (machine_now c.args.self.now) = c.words_of_machine.ensures ∙ ap words_of_machine c.machine.ensures.rerun
    in let found : register_value (words_of_machine (machine_now c.args.self.now)) c.args.number ≡ Some c.in-Some.value
    = ap (λ ws. register_value ws c.args.number) (sym words) ∙ sym c.register_value.ensures ∙ c.in-Some.is
    in rw found c.push_packet.ensures
