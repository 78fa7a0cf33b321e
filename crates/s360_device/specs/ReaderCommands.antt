-- The codes of the card reader's own commands (A21-9033, "2540 Card Read Punch").
use Rattle.std.specs.Prelude.{ℕ, Option, Some, None, List, [], ◌∷◌}
use Rattle.s360_device.specs.declared.card.ReadStacker.{ReadStacker}
use Rattle.s360_device.specs.declared.card.ReadStacker.TheVariants.{R1, R2, Rp3}
use Rattle.s360_device.specs.declared.reader_command.ReaderCommand.{ReaderCommand}
use Rattle.s360_device.specs.declared.reader_command.ReaderCommand.TheVariants.{Read, Feed}

-- read and feed, read alone, feed alone
abbrev pub reader_commands : List (ℕ × ReaderCommand)
reader_commands =
    (0x02, Read (Some R1))
    ∷ (0x42, Read (Some R2))
    ∷ (0x82, Read (Some Rp3))
    ∷ (0xC2, Read None)
    ∷ (0x23, Feed R1)
    ∷ (0x63, Feed R2)
    ∷ (0xA3, Feed Rp3)
    ∷ []

-- the stacker to which each feeds the next card, if it feeds it
abbrev pub stacker_of_command : ReaderCommand → Option ReadStacker
stacker_of_command (Read stacker) = stacker
stacker_of_command (Feed stacker) = Some stacker
