use Rattle.s360_machine.specs.Media.{media_of}
use Rattle.s360_machine.proofs.IoLemmas.{line-entered}
use Rattle.s360_machine.proofs.media.Devices.change_of_line.Goals as goal

pub returns : goal.returns
returns c = rw c.change_by.ensures (line-entered (media_of c.args.self.now) c.args.line.now _ (rw c.media.ensures at c.in_ok-change.ensures.entered))
