-- The lines that save (own profile): `save WHAT FILE`, or `save! WHAT FILE`, which writes over a file that is there. FILE is
-- the rest of the line, and may have blanks in it. Behind that of a trace may stand two numbers: the changes that it has.
use Rattle.std.specs.Prelude.{ℕ, Bool, true, false, nat_le, if◌then◌else◌, Option, None, Some, Result, List, [], ◌∷◌, codes}
use Rattle.s360_device.specs.declared.card.PunchStacker.TheVariants.{P1, P2, Rp3}
use Rattle.s360_language.specs.declared.command.LineFault.{LineFault}
use Rattle.s360_language.specs.Digits.{count_of}
use Rattle.s360_language.specs.Lines.{Line, if_known, judged, line, one_of, takes, text}
use Rattle.s360_language.specs.Reading.{most_count}
use Rattle.s360_language.specs.Words.{behind_word, from_word}
use Rattle.s360_saving.specs.declared.saving.Medium.{Medium}
use Rattle.s360_saving.specs.declared.saving.Medium.TheVariants.{Printer, Punch, Console, Tape0, Tape1, Trace}
use Rattle.s360_saving.specs.LastWords.{before_word, last_word, up_to_word}

-- what is saved, the bytes of the file's name, and whether a file that is there is written over
pub record Asked : Type 0 where
  pub what : Medium
  pub name : List ℕ
  pub over : Bool

-- what a word says is saved; `P1`, `P2` and `RP3` are the stackers of the punch
abbrev pub medium_of : List ℕ → Option Medium
medium_of word =
    one_of ((codes "printer", Printer) ∷ (codes "punch", Punch None) ∷ (codes "P1", Punch (Some P1)) ∷ (codes "P2", Punch (Some P2))
    ∷ (codes "RP3", Punch (Some Rp3)) ∷ (codes "console", Console) ∷ (codes "tape0", Tape0) ∷ (codes "tape1", Tape1)
    ∷ (codes "trace", Trace 1 most_count) ∷ []) word

-- the name of a file: what follows the first two words of a line, from its first byte on that is no blank
abbrev pub name_in : List ℕ → List ℕ
name_in line = from_word (behind_word (behind_word line))

-- a name is not empty
abbrev pub named : Medium → Bool → List ℕ → Option Asked
named what over [] = None
named what over (b ∷ bs) = Some (record { what = what; name = b ∷ bs; over = over })

-- a range is two numbers of which the first is not greater
abbrev pub ranged : Medium → Bool → List ℕ → Option ℕ → Option ℕ → Option Asked
ranged all over rest (Some from) (Some to) =
    if nat_le from to then named (Trace from to) over (up_to_word (before_word (before_word rest))) else named all over rest
ranged all over rest from to = named all over rest

-- the file that the rest of a line names, with what it has: of a trace the changes of the range, if the last two words are one
abbrev pub file_in : Medium → Bool → List ℕ → Option Asked
file_in (Trace from to) over rest =
    ranged (Trace from to) over rest (count_of most_count (last_word (before_word rest))) (count_of most_count (last_word rest))
file_in what over rest = named what over rest

-- what follows the first two words names the file
abbrev pub savings : List ℕ → List (Line Asked)
savings behind =
    line (codes "save") (takes medium_of (λ what. text (file_in what false) behind (λ asked. asked))) ∷
    line (codes "save!") (takes medium_of (λ what. text (file_in what true) behind (λ asked. asked))) ∷
    []

unfoldable pub saving_of : List ℕ → Option (Result Asked LineFault)
saving_of bytes = if_known (judged (savings (name_in bytes)) bytes)
