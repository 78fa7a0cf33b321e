-- The card punch of the 2540. Its commands are modelled on A21-9033, "2540 Card Read Punch"; that cards never run
-- out, that its third stacker is its own, and its sense bytes are the own profile.
use Rattle.std.specs.Prelude.{ℕ, false, List, [], ◌∷◌, ◌++◌}
use Rattle.std.specs.Option.{option_map_or}
use Rattle.s360_model.specs.Cards.{columns, card_of}
use Rattle.s360_device.specs.declared.card.PunchStacker.{PunchStacker}
use Rattle.s360_device.specs.declared.card.PunchStacker.TheVariants.{P1, P2, Rp3}
use Rattle.s360_device.specs.declared.card.PunchedCard.{PunchedCard}
use Rattle.s360_device.specs.Sense.{no_sense, command_reject}
use Rattle.s360_device.specs.declared.device_with.DeviceWith.{DeviceWith}
use Rattle.s360_device.specs.declared.motion.Motion.{Motion}
use Rattle.s360_device.specs.Kinds.{Kind}
use Rattle.s360_device.specs.Motions.{motion_kind}
use Rattle.s360_device.specs.Rows.{Row, refused, output, Table}
use Rattle.s360_model.specs.Tables.{entry_in}

-- the cards punched, in their order, each with its stacker
abbrev pub Punch : Type 0
Punch = DeviceWith (List PunchedCard)

-- a new punch
abbrev pub new_punch : Punch
new_punch = record { sense = no_sense; media = [] }

-- the commands that punch, and stack the card here
abbrev pub punch_commands : List (ℕ × PunchStacker)
punch_commands = (0x01, P1) ∷ (0x41, P2) ∷ (0x81, Rp3) ∷ []

-- a card is punched with the bytes and goes to a stacker
abbrev pub punched : List PunchedCard → PunchStacker → List ℕ → List PunchedCard
punched cards stacker bytes = cards ++ record { card = card_of bytes; stacker = stacker } ∷ []

abbrev pub punch_row : List PunchedCard → ℕ → Row (List PunchedCard)
punch_row cards code = option_map_or (λ stacker. output columns (punched cards stacker) false) (entry_in punch_commands code) (refused command_reject)

abbrev pub punch_table : Table (List PunchedCard)
punch_table = record { rows = punch_row; sense_bytes = 1 }

-- what a command does to the cards punched
abbrev pub punch_kind : Kind (List PunchedCard) (List PunchedCard) (Motion PunchedCard)
punch_kind = motion_kind punch_table
