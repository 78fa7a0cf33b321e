use Rattle.std.proofs.Common.{◌≡◌, ◌+◌, Some, None, refl, rules, slice_get}
use Rattle.s360_tape.specs.Items.{bytes_of}
use Rattle.s360_tape.specs.Tape.{moved_to}
use Rattle.s360_tape.specs.WholeTape.{seen_media}
use Rattle.s360_tape.proofs.tape.TapeMedia.read.Goals as goal

pub returns-in-Some : goal.returns-in-Some
returns-in-Some c =
    let tape = seen_media c.args.self.now.media
    in let found : slice_get tape.items tape.position ≡ Some c.in-Some.item.now = search rules
    in let moving = rw (c.position.ensures.place, c.unloaded.ensures) at c.moving.ensures
    in (bytes_of c.in-Some.item.now, (moved_to tape (tape.position + 1), (rw (found, c.is_mark.ensures) refl, moving)))

pub returns-in-None : goal.returns-in-None
returns-in-None c =
    let tape = seen_media c.args.self.now.media
    in let found : slice_get tape.items tape.position ≡ None = search rules
    in rw found refl
