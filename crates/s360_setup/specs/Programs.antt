-- The programs over the machine, and the lines that they tell of themselves (own profile).
use Rattle.std.specs.Prelude.{ℕ, List, ◌++◌, codes}
use Rattle.s360_setup.specs.declared.program.Program.{Program}
use Rattle.s360_setup.specs.declared.program.Program.TheVariants.{Debugger, Server}

abbrev pub program_name : Program → List ℕ
program_name Debugger = codes "s360dbg"
program_name Server = codes "s360gdb"

-- a line of it, with its line feed
abbrev pub told_by : Program → List ℕ → List ℕ
told_by program text = program_name program ++ (codes ": " ++ (text ++ codes "\n"))
