-- What is shown of the file of a tape (own profile). Each line is ended by one line feed.
use Rattle.std.specs.Prelude.{ℕ, Option, Some, List, ◌++◌, codes, length}
use Rattle.s360_text.specs.Counts.{counted}
use Rattle.s360_word.specs.declared.unit.Unit.{Unit}
use Rattle.s360_tape.specs.Images.{tape_file}
use Rattle.s360_tape.specs.Tape.{Tape}
use Rattle.s360_channel.specs.declared.configured_unit.ConfiguredUnit.{ConfiguredUnit}
use Rattle.s360_channel.specs.declared.configured_unit.ConfiguredUnit.TheVariants.{Tape0, Tape1}
use Rattle.s360_machine.specs.declared.refusal.Refusal.TheVariants.{NoSuchUnit}
use Rattle.s360_machine.specs.Machine.{Machine}
use Rattle.s360_channel.specs.ConfiguredUnits.{unit_at}
use Rattle.s360_language.specs.declared.show_bytes.RowForm.TheVariants.{Plain}
use Rattle.s360_language.specs.Names.{refused_text}
use Rattle.s360_language.specs.ShownBytes.{in_rows}

-- how many bytes a file has, and all of them, 32 a line
abbrev pub file_text : List ℕ → List ℕ
file_text file = counted (codes "image ") (length file) ++ codes "\n" ++ in_rows Plain 0 32 file

-- the file of the blocks and marks of a tape
abbrev pub tape_image : Tape → List ℕ
tape_image t = file_text (tape_file t.media.items)

-- the file of a unit's tape, if the machine has one there
abbrev pub image_of_unit : Machine → Option ConfiguredUnit → List ℕ
image_of_unit m (Some Tape0) = tape_image m.media.tape0
image_of_unit m (Some Tape1) = tape_image m.media.tape1
image_of_unit m unit = refused_text NoSuchUnit

abbrev pub image_text : Machine → Unit → List ℕ
image_text m unit = image_of_unit m (unit_at unit.0)
