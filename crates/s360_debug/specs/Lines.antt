-- The lines of a script (own profile): ended by line feeds, the last may lack one. One carriage return before
-- a line feed is dropped.
use Rattle.std.specs.Prelude.{ℕ, ◌-◌, Bool, ◌||◌, nat_eq, if◌then◌else◌, List, [], ◌∷◌, ◌++◌, length, take, slice_index}
use Rattle.std.specs.List.{list_all}

-- a line without one carriage return at its end
abbrev pub without_return : List ℕ → List ℕ
without_return line = if nat_eq (slice_index line (length line - 1)) 13 then take (length line - 1) line else line

-- the lines of a text after the bytes of a line that was begun
abbrev pub lines_from : List ℕ → List ℕ → List (List ℕ)
lines_from begun [] = begun ∷ []
lines_from begun (b ∷ bs) = if nat_eq b 10 then without_return begun ∷ lines_from [] bs else lines_from (begun ++ b ∷ []) bs

abbrev pub lines_of : List ℕ → List (List ℕ)
lines_of text = lines_from [] text

-- a line of blanks alone, or one that begins with an asterisk, is skipped, whatever its length
abbrev pub is_skipped : List ℕ → Bool
is_skipped line = nat_eq (slice_index line 0) 42 || list_all (λ b. nat_eq b 32) line
