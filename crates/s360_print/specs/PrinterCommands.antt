-- The codes of the printer's own commands (component description of the 1403).
use Rattle.std.specs.Prelude.{ℕ, List, [], ◌∷◌}
use Rattle.s360_print.specs.declared.carriage.CarriageMotion.TheVariants.{Space, Skip}
use Rattle.s360_print.specs.declared.printer_command.PrinterCommand.{PrinterCommand}
use Rattle.s360_print.specs.declared.printer_command.PrinterCommand.TheVariants.{Print, Move}
use Rattle.s360_print.specs.Carriage.{IsCarriageMotion}

-- print and space, space alone, print and skip to a channel, skip alone
abbrev pub printer_commands : List (ℕ × PrinterCommand)
printer_commands =
    (0x01, Print (Space 0))
    ∷ (0x09, Print (Space 1))
    ∷ (0x11, Print (Space 2))
    ∷ (0x19, Print (Space 3))
    ∷ (0x0B, Move (Space 1))
    ∷ (0x13, Move (Space 2))
    ∷ (0x1B, Move (Space 3))
    ∷ (0x89, Print (Skip 1))
    ∷ (0x91, Print (Skip 2))
    ∷ (0x99, Print (Skip 3))
    ∷ (0xA1, Print (Skip 4))
    ∷ (0xA9, Print (Skip 5))
    ∷ (0xB1, Print (Skip 6))
    ∷ (0xB9, Print (Skip 7))
    ∷ (0xC1, Print (Skip 8))
    ∷ (0xC9, Print (Skip 9))
    ∷ (0xD1, Print (Skip 10))
    ∷ (0xD9, Print (Skip 11))
    ∷ (0xE1, Print (Skip 12))
    ∷ (0x8B, Move (Skip 1))
    ∷ (0x93, Move (Skip 2))
    ∷ (0x9B, Move (Skip 3))
    ∷ (0xA3, Move (Skip 4))
    ∷ (0xAB, Move (Skip 5))
    ∷ (0xB3, Move (Skip 6))
    ∷ (0xBB, Move (Skip 7))
    ∷ (0xC3, Move (Skip 8))
    ∷ (0xCB, Move (Skip 9))
    ∷ (0xD3, Move (Skip 10))
    ∷ (0xDB, Move (Skip 11))
    ∷ (0xE3, Move (Skip 12))
    ∷ []

-- the motion is one that there is
abbrev pub MovesTheCarriage : PrinterCommand → Type 0
MovesTheCarriage (Print motion) = IsCarriageMotion motion
MovesTheCarriage (Move motion) = IsCarriageMotion motion
