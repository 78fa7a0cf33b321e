-- The words of a line: the longest runs of bytes that are no blanks. Blank means the byte 20 alone (own profile).
use Rattle.std.specs.Prelude.{ℕ, Bool, nat_eq, not, if◌then◌else◌, List, [], ◌∷◌, ◌++◌, drop}
use Rattle.std.specs.List.{position_or_len}

-- a word comes before the others, unless it is empty
abbrev pub word_then : List ℕ → List (List ℕ) → List (List ℕ)
word_then [] others = others
word_then (b ∷ word) others = (b ∷ word) ∷ others

-- the words of a line after the bytes of a word that was begun
abbrev pub words_from : List ℕ → List ℕ → List (List ℕ)
words_from begun [] = word_then begun []
words_from begun (b ∷ bs) = if nat_eq b 32 then word_then begun (words_from [] bs) else words_from (begun ++ b ∷ []) bs

abbrev pub words_of : List ℕ → List (List ℕ)
words_of line = words_from [] line

-- a line from its first byte on that passes a test
abbrev pub from_first : (ℕ → Bool) → List ℕ → List ℕ
from_first test line = drop (position_or_len test line) line

-- a line from its first word on, and what follows that word
abbrev pub from_word : List ℕ → List ℕ
from_word line = from_first (λ b. not (nat_eq b 32)) line

abbrev pub behind_word : List ℕ → List ℕ
behind_word line = from_first (λ b. nat_eq b 32) (from_word line)

-- the text of a line: what follows its first word and one blank
abbrev pub text_behind : List ℕ → List ℕ
text_behind line = drop 1 (behind_word line)
