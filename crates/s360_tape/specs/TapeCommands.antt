-- The codes of the tapes' own commands (GA22-6866, "2400-Series Magnetic Tape Units").
use Rattle.std.specs.Prelude.{ℕ, Bool, true, false, List, [], ◌∷◌}
use Rattle.s360_tape.specs.declared.tape_command.TapeCommand.{TapeCommand}
use Rattle.s360_tape.specs.declared.tape_command.TapeCommand.TheVariants.{Write, Read, Rewind, ReadBackward, RewindUnload, EraseGap}
use Rattle.s360_tape.specs.declared.tape_command.TapeCommand.TheVariants.{WriteMark, BackspaceRecord, BackspaceFile, SpaceRecord, SpaceFile}

abbrev pub tape_commands : List (ℕ × TapeCommand)
tape_commands =
    (0x01, Write)
    ∷ (0x02, Read)
    ∷ (0x07, Rewind)
    ∷ (0x0C, ReadBackward)
    ∷ (0x0F, RewindUnload)
    ∷ (0x17, EraseGap)
    ∷ (0x1F, WriteMark)
    ∷ (0x27, BackspaceRecord)
    ∷ (0x2F, BackspaceFile)
    ∷ (0x37, SpaceRecord)
    ∷ (0x3F, SpaceFile)
    ∷ []

-- those that a protected tape refuses: write, write tape mark and erase gap
abbrev pub writes : TapeCommand → Bool
writes Write = true
writes WriteMark = true
writes EraseGap = true
writes command = false
