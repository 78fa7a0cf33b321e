-- Bytes in digits and in the signs that they have in EBCDIC, and rows of them (own profile).
use Rattle.std.specs.Prelude.{ℕ, ◌+◌, ◌-◌, ◌*◌, ◌%◌, Bool, nat_eq, if◌then◌else◌, List, [], ◌∷◌, ◌++◌, codes, length, map, min, slice_index, take, unwrap_or}
use Rattle.std.specs.Int.{div_ceil}
use Rattle.std.specs.List.{flat_map, range_with_len, slice_range, suffix_len}
use Rattle.s360_model.specs.Storage.{Storage, is_inside}
use Rattle.s360_model.specs.Text.{hex_bytes, hex_text}
use Rattle.s360_print.specs.Signs.{ascii_of}
use Rattle.s360_machine.specs.declared.refusal.Refusal.TheVariants.{OutsideStorage}
use Rattle.s360_language.specs.declared.show_bytes.RowForm.{RowForm}
use Rattle.s360_language.specs.declared.show_bytes.RowForm.TheVariants.{Plain, Digits, Signs}
use Rattle.s360_language.specs.Names.{refused_text}

-- the sign of an EBCDIC byte, or a period where it has none
unfoldable pub sign_of : ℕ → ℕ
sign_of byte = unwrap_or (ascii_of byte) 46

-- a line without the blanks at its end
abbrev pub is_blank : ℕ → Bool
is_blank byte = nat_eq (sign_of byte) 32

abbrev pub trimmed : List ℕ → List ℕ
trimmed line = take (length line - suffix_len is_blank line) line

-- its signs after a blank, if it has any
abbrev pub signs_behind : List ℕ → List ℕ
signs_behind [] = []
signs_behind (byte ∷ bytes) = codes " " ++ map sign_of (byte ∷ bytes)

-- a byte of a row, after a blank where it is the first of four, a word
abbrev pub digits_in_word : ℕ → ℕ → List ℕ
digits_in_word index byte = (if nat_eq (index % 4) 0 then codes " " else []) ++ hex_text 2 byte

abbrev pub words_of_row : List ℕ → List ℕ
words_of_row bytes = flat_map (λ index. digits_in_word index (slice_index bytes index)) (range_with_len 0 (length bytes))

-- a row whose first byte has this address: between asterisks stand the signs
abbrev pub told_row : RowForm → ℕ → List ℕ → List ℕ
told_row Plain at bytes = hex_bytes bytes ++ codes "\n"
told_row Digits at bytes = hex_text 6 at ++ codes " " ++ hex_bytes bytes ++ codes "\n"
told_row Signs at bytes = hex_text 6 at ++ words_of_row bytes ++ codes " *" ++ map sign_of bytes ++ codes "*\n"

-- of bytes the row with this number: so many bytes, or those that are left
abbrev pub numbered_row : RowForm → ℕ → ℕ → List ℕ → ℕ → List ℕ
numbered_row row at size bytes number =
    told_row row (at + number * size) (slice_range bytes (number * size) (min (length bytes) (number * size + size)))

abbrev pub in_rows : RowForm → ℕ → ℕ → List ℕ → List ℕ
in_rows row at size bytes = flat_map (numbered_row row at size bytes) (range_with_len 0 (div_ceil (length bytes) size))

-- so many bytes of storage from an address on, sixteen a row, if all are inside
abbrev pub storage_rows : RowForm → Storage → ℕ → ℕ → List ℕ
storage_rows row s at count =
    if is_inside s at count then in_rows row at 16 (slice_range s.bytes at (at + count)) else refused_text OutsideStorage
