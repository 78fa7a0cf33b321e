-- Punched cards, and files of them. A card has 80 columns, each with the byte of an EBCDIC character (A21-9033, "2540
-- Card Read Punch"); a deck is a file of cards joined, with nothing between them (own profile).
use Rattle.std.specs.Prelude.{◌≡◌, ℕ, ◌-◌, ◌*◌, ◌/◌, ◌%◌, nat_eq, if◌then◌else◌, Option, Some, None, List, ◌++◌, length, replicate}
use Rattle.std.specs.List.{All, concat}

-- columns of a card
abbrev pub columns : ℕ
columns = 80

-- each is a card
abbrev pub AreCards : List (List ℕ) → Type 0
AreCards cards = All (λ card. length card ≡ columns) cards

-- the file is that of a deck
pub record IsDeckFile (file : List ℕ) (cards : List (List ℕ)) : Type 0 where
  pub whole : AreCards cards
  pub joined : concat cards ≡ file

-- where the last card of a file starts, if it is a short one
abbrev pub short_card_of : List ℕ → Option ℕ
short_card_of file = if nat_eq (length file % columns) 0 then None else Some (length file / columns * columns)

-- a card with these bytes in its first columns and blanks in the others
abbrev pub card_of : List ℕ → List ℕ
card_of bytes = bytes ++ replicate (columns - length bytes) 0x40
