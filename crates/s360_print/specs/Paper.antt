-- Lines as the 1403 prints them (component description of the 1403): 132 print positions.
use Rattle.std.specs.Prelude.{ℕ, ◌-◌, List, ◌++◌, length, replicate}

-- print positions of a line
abbrev pub line_width : ℕ
line_width = 132

-- a line with these bytes in its first print positions and blanks in the others
abbrev pub print_line : List ℕ → List ℕ
print_line bytes = bytes ++ replicate (line_width - length bytes) 0x40
