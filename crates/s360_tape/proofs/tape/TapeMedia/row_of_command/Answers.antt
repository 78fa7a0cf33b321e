use Rattle.std.proofs.Common.{refl}
use Rattle.s360_tape.specs.declared.item.TapeItem.TheVariants.{Block}
use Rattle.s360_tape.specs.Tape.{with_item}
use Rattle.s360_tape.specs.WholeTape.{seen_media}
use Rattle.s360_tape.proofs.tape.TapeMedia.row_of_command.Goals as goal

pub returns-in-Write : goal.returns-in-Write
returns-in-Write c = (λ bytes. with_item (seen_media c.args.self.now.media) (Block bytes), rw c.in-Write.is refl)
