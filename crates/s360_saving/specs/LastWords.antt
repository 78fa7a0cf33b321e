-- The last words of a line (own profile). Blank means the byte 20 alone.
use Rattle.std.specs.Prelude.{ℕ, ◌-◌, Bool, nat_eq, not, List, drop, length, take}
use Rattle.std.specs.List.{suffix_len}

-- a line up to the end of its last word
abbrev pub up_to_word : List ℕ → List ℕ
up_to_word line = take (length line - suffix_len (λ b. nat_eq b 32) line) line

-- where that word begins: behind the last blank
abbrev pub begin_of_word : List ℕ → ℕ
begin_of_word line = length line - suffix_len (λ b. not (nat_eq b 32)) line

-- what stands before it, and the word; it is empty if there is none
abbrev pub before_word : List ℕ → List ℕ
before_word line = take (begin_of_word (up_to_word line)) (up_to_word line)

abbrev pub last_word : List ℕ → List ℕ
last_word line = drop (begin_of_word (up_to_word line)) (up_to_word line)
