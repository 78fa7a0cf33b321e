-- What the program tells beside what gdb is answered (own profile).
use Rattle.std.specs.Prelude.{ℕ, zero, suc, List, [], ◌++◌, codes, decimal}
use Rattle.s360_setup.specs.Programs.{told_by}
use Rattle.s360_setup.specs.declared.program.Program.TheVariants.{Server}

-- how many recorded changes were dropped, if any
abbrev pub note_of_dropped : ℕ → List ℕ
note_of_dropped zero = []
note_of_dropped (suc n) = told_by Server (codes "dropped " ++ (decimal (suc n) ++ codes " recorded changes"))
