use Rattle.std.proofs.Common.{subst}
use Rattle.s360_device.specs.Transfers.{IsInputOf}
use Rattle.s360_device.specs.declared.device.Begin.{Begin}
use Rattle.s360_channel.specs.Execution.{WordAtHand, word_at_hand}
use Rattle.s360_machine.specs.Machine.{seen}
use Rattle.s360_source.proofs.ChannelWordLemmas.{input-moved, output-moved}
use Rattle.s360_source.proofs.channel_word.Moved.begun.Goals as goal

pub returns-in-Input : goal.returns-in-Input
returns-in-Input c d at h =
    let w : WordAtHand = word_at_hand d c.args.program.now at c.args.ccw.now
    in input-moved (seen c.args.machine.now.whole) w c.args.begin c.in-Input.total c.of_input-movement.result _ _ _ _ c.in-Input.is
    (c.of_input-movement.ensures d at (subst (λ (b : Begin). IsInputOf b w.input) c.in-Input.is h)) c.checked-keys.ensures.keys
    c.checked-keys.ensures.moving c.none.ensures

pub returns-in-Output : goal.returns-in-Output
returns-in-Output c d at h =
    let w : WordAtHand = word_at_hand d c.args.program.now at c.args.ccw.now
    in output-moved (seen c.args.machine.now.whole) w c.args.begin c.in-Output.limit c.of_output-movement.result _ _ _ _ c.in-Output.is
    (c.of_output-movement.ensures d at) c.checked-keys-in-Output.ensures.keys c.checked-keys-in-Output.ensures.moving c.none-in-Output.ensures
