-- Whether two tapes are alike in sense bytes and in what is seen of them, as a test (ours).
use Rattle.std.specs.Prelude.{Bool, true, false, ◌&&◌, nat_eq, bytes_eq}
use Rattle.std.specs.Bool.{beq}
use Rattle.std.specs.Cmp.Lexicographic.{pointwise}
use Rattle.s360_tape.specs.declared.item.TapeItem.{TapeItem}
use Rattle.s360_tape.specs.declared.item.TapeItem.TheVariants.{Block, Mark}
use Rattle.s360_tape.specs.Tape.{Tape}

abbrev pub same_item : TapeItem → TapeItem → Bool
same_item (Block bytes) (Block others) = bytes_eq bytes others
same_item Mark Mark = true
same_item item other = false

abbrev pub same_tape : Tape → Tape → Bool
same_tape t u =
    bytes_eq t.sense u.sense
    && (pointwise same_item t.media.items u.media.items
    && (nat_eq t.media.position u.media.position
    && (beq t.media.protected u.media.protected
    && beq t.media.unloaded u.media.unloaded)))
