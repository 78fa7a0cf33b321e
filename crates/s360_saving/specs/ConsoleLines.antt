-- What the 1052 typed, and the lines that were entered, as a file (own profile). The console keeps them apart. So the file has
-- first what was typed, in the lines of `show m`, and then the lines that were entered, as a script enters them.
use Rattle.std.specs.Prelude.{ℕ, List, ◌++◌, codes, length, map, nat_eq, filter, flat_map}
use Rattle.s360_language.specs.ShownBytes.{sign_of}
use Rattle.s360_language.specs.declared.show_items.ItemForm.TheVariants.{OnItsLine}
use Rattle.s360_language.specs.ShownItems.{typed_told}
use Rattle.s360_print.specs.Console.{ConsoleMedia}

-- a line that was entered, with the blanks at its end
abbrev pub entered_line : List ℕ → List ℕ
entered_line line = codes "enter " ++ map sign_of line ++ codes "\n"

abbrev pub console_file : ConsoleMedia → List ℕ
console_file c = flat_map (typed_told OnItsLine) c.typed ++ flat_map entered_line c.entered

-- as many lines as are ended
abbrev pub line_count : List ℕ → ℕ
line_count file = length (filter (λ b. nat_eq b 0x0A) file)
