-- Bytes that are made and stored from left to right, and what they are made of (ours).
use Rattle.std.specs.Prelude.{ℕ, ◌+◌, Bool, false, Option, Some, None, if◌then◌else◌, List, [], ◌∷◌}
use Rattle.s360_model.specs.Storage.{Storage}
use Rattle.s360_store.specs.declared.protection.Checked.{Checked}
use Rattle.s360_store.specs.declared.place.Place.{Place}
use Rattle.s360_store.specs.declared.place.Place.TheVariants.{Psw, Byte}
use Rattle.s360_logic.specs.declared.row.ByteCombination.TheVariants.{Second}
use Rattle.s360_logic.specs.{Bytes.byte_at, LeftToRight.function_address}
use Rattle.s360_machine.specs.Machine.{Machine}
use Rattle.s360_footprint.specs.LeftToRightRows.{Making, combining, function_met, made_read, made_stores, sets_code, translating}
use Rattle.s360_footprint.specs.OperandReadings.{Profile}
use Rattle.s360_footprint.specs.Readings.{Reading, places_read, read}
use Rattle.s360_source.specs.declared.left_to_right.{ByteRow.ByteRow, MadeBytes.MadeBytes}
use Rattle.s360_source.specs.declared.question.Question.{Question}
use Rattle.s360_source.specs.Walks.{with_store, with_stores_of}

abbrev pub making_by : ByteRow → ℕ → ℕ → Making
making_by (ByteRow.Combined c) first second = combining c first second
making_by ByteRow.Translated first table = translating table first

abbrev pub making_of : MadeBytes → Making
making_of b = making_by b.row b.first b.second

-- the byte itself, if it is made of itself too; and the address of the other byte that the byte of a number is made of
abbrev pub own_places : ByteRow → ℕ → List Place
own_places (ByteRow.Combined Second) a = []
own_places row a = Byte a ∷ []

abbrev pub other_byte : ByteRow → ℕ → ℕ → Storage → ℕ → ℕ
other_byte (ByteRow.Combined c) first second s i = second + i
other_byte ByteRow.Translated first table s i = function_address table (byte_at s (first + i))

-- what the condition code is made of beside the PSW: of all bytes, if it is set
abbrev pub row_sets_code : ByteRow → Bool
row_sets_code (ByteRow.Combined c) = sets_code c
row_sets_code ByteRow.Translated = false

abbrev pub code_places : MadeBytes → ℕ → Machine → List Place
code_places b count m = if row_sets_code b.row then places_read (made_read (making_of b) b.first count b.first count) m else []

-- the byte that is asked for
abbrev pub byte_asked : Question → Option ℕ
byte_asked (Question.Sources (Byte a)) = Some a
byte_asked question = None

abbrev pub made_walk : Question → MadeBytes → ℕ → Machine → List Place → List Place
made_walk question b count m found =
    with_store question Psw (Psw ∷ code_places b count m) (with_stores_of question m (made_stores (making_of b) b.first count) found)

-- what the fetch of the function byte meets that the byte at an address selects
abbrev pub selecting_met : Profile → ℕ → ℕ → ℕ → Reading Checked
selecting_met p table key a = read (Byte a) (λ b. function_met p table key b)
