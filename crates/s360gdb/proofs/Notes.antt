-- What is told of dropped changes.
use Rattle.std.proofs.Common.{◌≡◌, ◌≢◌, refl, ℕ, zero, suc, ◌++◌, codes, decimal}
use Rattle.s360_setup.specs.Programs.{told_by}
use Rattle.s360_setup.specs.declared.program.Program.TheVariants.{Server}
use Rattle.s360gdb.specs.Notes.{note_of_dropped}

pub note-some : (n : ℕ) → n ≢ 0 → note_of_dropped n ≡ told_by Server (codes "dropped " ++ (decimal n ++ codes " recorded changes"))
note-some zero h = absurd (h refl)
note-some (suc n) h = refl
