-- The form in which a language of lines is written down, and the judge of a line (own profile). Words are judged from left to
-- right, and the first that is wrong, missing or too many is named by its number, the first word of a line being 0.
use Rattle.std.specs.Prelude.{◌-◌, ◌+◌, ℕ, Bool, false, nat_eq, nat_lt, if◌then◌else◌, Option, None, Some, Result, Ok, Err, List, [], ◌∷◌, drop, length, ok_or}
use Rattle.std.specs.Cmp.Lexicographic.{pointwise}
use Rattle.std.specs.Map.{lookup}
use Rattle.s360_language.specs.declared.command.LineFault.{LineFault}
use Rattle.s360_language.specs.declared.command.LineFault.TheVariants.{LineTooLong, Unknown, Argument}
use Rattle.s360_language.specs.Words.{words_of}

-- the longest line, in bytes
abbrev pub longest_line : ℕ
longest_line = 1024

abbrev pub is_word : List ℕ → List ℕ → Bool
is_word word name = pointwise nat_eq word name

-- what follows a part that is right
abbrev pub and_then : {V W : Type 0} → Result V LineFault → (V → Result W LineFault) → Result W LineFault
and_then (Ok v) next = next v
and_then (Err f) next = Err f

-- the first of the words as an argument of this number; or another value if no word is left
abbrev pub argument : {V : Type 0} → ℕ → (List ℕ → Option V) → List (List ℕ) → Result V LineFault
argument number value [] = Err (Argument number)
argument number value (word ∷ words) = ok_or (value word) (Argument number)

abbrev pub argument_or : {V : Type 0} → ℕ → (List ℕ → Option V) → V → List (List ℕ) → Result V LineFault
argument_or number value otherwise [] = Ok otherwise
argument_or number value otherwise (word ∷ words) = ok_or (value word) (Argument number)

-- the value that a word says, among words that each say one
abbrev pub one_of : {V : Type 0} → List (List ℕ × V) → List ℕ → Option V
one_of values word = lookup (λ name. is_word word name) values

-- what words say, the first of which has this number
abbrev pub Form : Type 0 → Type 0
Form C = ℕ → List (List ℕ) → Result C LineFault

-- no word is left: the line makes this
abbrev pub makes : {C : Type 0} → C → Form C
makes made number [] = Ok made
makes made number (word ∷ words) = Err (Argument number)

-- words may be left: a part of a line makes this, and the next word has this number
abbrev pub begins : {C : Type 0} → C → Form (C × ℕ)
begins made number words = Ok (made, number)

-- an argument, and what the words behind it say
abbrev pub takes : {V C : Type 0} → (List ℕ → Option V) → (V → Form C) → Form C
takes value next number words = and_then (argument number value words) (λ v. next v (number + 1) (drop 1 words))

-- an argument that may be left out
abbrev pub may_take : {V C : Type 0} → (List ℕ → Option V) → V → (V → Form C) → Form C
may_take value otherwise next number words = and_then (argument_or number value otherwise words) (λ v. next v (number + 1) (drop 1 words))

-- one argument and two, with which the line ends
abbrev pub one : {V C : Type 0} → (List ℕ → Option V) → (V → C) → Form C
one value made = takes value (λ v. makes (made v))

abbrev pub two : {V W C : Type 0} → (List ℕ → Option V) → (List ℕ → Option W) → (V → W → C) → Form C
two first second made = takes first (λ v. takes second (λ w. makes (made v w)))

-- the text behind the words so far as the last argument
abbrev pub text : {V C : Type 0} → (List ℕ → Option V) → List ℕ → (V → C) → Form C
text value behind made number words = and_then (ok_or (value behind) (Argument number)) (λ v. Ok (made v))

-- a line of a language: its name, and what the words behind that say
pub record Line (C : Type 0) : Type 0 where
  pub name : List ℕ
  pub form : Form C

abbrev pub line : {C : Type 0} → List ℕ → Form C → Line C
line name form = record { name = name; form = form }

-- the line that the first of the words names; else this fault
abbrev pub named : {C : Type 0} → LineFault → List (Line C) → Form C
named fault lines number [] = Err fault
named fault [] number (word ∷ words) = Err fault
named fault (l ∷ lines) number (word ∷ words) = if is_word word l.name then l.form (number + 1) words else named fault lines number (word ∷ words)

-- a word of a line that names one of several
abbrev pub kind : {C : Type 0} → List (Line C) → Form C
kind lines number words = named (Argument number) lines number words

-- a line that is of one form if its next word is this, which is taken, and else of another
abbrev pub begins_with : List ℕ → List (List ℕ) → Bool
begins_with name [] = false
begins_with name (word ∷ words) = is_word word name

abbrev pub if_word : {C : Type 0} → List ℕ → Form C → Form C → Form C
if_word name form other number words = if begins_with name words then form (number + 1) (drop 1 words) else other number words

-- a part that several lines have, and what the words behind it say
abbrev pub part : {V C : Type 0} → List (Line (V × ℕ)) → (V → Form C) → Form C
part lines next number words = and_then (kind lines number words) (λ read. next read.0 read.1 (drop (read.1 - number) words))

-- what a line of a language says: a line that is too long comes first
abbrev pub judged : {C : Type 0} → List (Line C) → List ℕ → Result C LineFault
judged lines bytes = if nat_lt longest_line (length bytes) then Err LineTooLong else named Unknown lines 0 (words_of bytes)

-- the same for a language beside that of scripts, of which a line that it does not know is none
abbrev pub if_known : {C : Type 0} → Result C LineFault → Option (Result C LineFault)
if_known (Err LineTooLong) = None
if_known (Err Unknown) = None
if_known reading = Some reading
