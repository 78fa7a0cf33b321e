use Rattle.std.proofs.Common.{◌∙◌, true, ap, sym, length}
use Rattle.s360_model.specs.Storage.{Storage}
use Rattle.s360_machine.specs.Machine.{seen}
use Rattle.s360_source.specs.Channels.{extent_in}
use Rattle.s360_source.proofs.ChannelWordLemmas.{keys-met}
use Rattle.s360_source.proofs.channel_word.keys_looked_at.Goals as goal

pub returns-then-is_guarded : goal.returns-then-is_guarded
returns-then-is_guarded c =
    keys-met c.args.program.now.key c.args.movement.kind c.args.movement.count c.args.movement.lowest (seen c.args.machine.now.whole) c.extent-bytes.result true
    (sym c.if-is_guarded.true ∙ c.is_guarded.ensures)
    (c.extent-bytes.ensures
    ∙ ap (λ (s : Storage). extent_in (length s.bytes) c.args.movement.lowest c.args.movement.count) c.storage.ensures)
