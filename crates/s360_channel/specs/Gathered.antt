-- The bytes that the words of an output gather, each word's after those of the words before it (kept).
use Rattle.std.specs.Prelude.{ℕ, List, [], ◌++◌, ◌+◌, option_copied, reverse}
use Rattle.std.specs.Option.{option_map_or}
use Rattle.s360_channel.specs.declared.gathered.{Backward.Backward, Parts.Parts, Parts.First, Parts.After'}

-- those of the last word
abbrev pub part_of : Parts → List ℕ
part_of (First bytes) = bytes.items
part_of (After' p before bytes) = bytes.items

-- those of all words
abbrev pub bytes_of : Parts → List ℕ
bytes_of (First bytes) = bytes.items
bytes_of (After' p before bytes) = bytes_of before ++ bytes.items

-- of how many words they are
abbrev pub word_count : Parts → ℕ
word_count (First bytes) = 1
word_count (After' p before bytes) = word_count before + 1

-- what is left from the last to the first
abbrev pub left_of : Backward → List ℕ
left_of b = reverse (option_map_or bytes_of (option_copied b.before) [] ++ b.part.now)
