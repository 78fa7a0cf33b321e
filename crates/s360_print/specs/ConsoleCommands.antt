-- The codes of the console's own commands (component description of the 1052).
use Rattle.std.specs.Prelude.{ℕ, List, [], ◌∷◌}
use Rattle.s360_print.specs.declared.console_command.ConsoleCommand.{ConsoleCommand}
use Rattle.s360_print.specs.declared.console_command.ConsoleCommand.TheVariants.{Write, WriteAndReturn, Read, SoundAlarm}

abbrev pub console_commands : List (ℕ × ConsoleCommand)
console_commands = (0x01, Write) ∷ (0x09, WriteAndReturn) ∷ (0x0A, Read) ∷ (0x0B, SoundAlarm) ∷ []
