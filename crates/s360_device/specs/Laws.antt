-- What a short card of a file is, in other words than those of its definition.
use Rattle.std.specs.Prelude.{◌≡◌, ◌<◌, ◌+◌, ℕ, Some, None, List, length, take}
use Rattle.s360_model.specs.Cards.{columns, IsDeckFile, short_card_of}

-- a file that is a deck's has no short card
abbrev pub NoDeckFileIsShort : Type 0
NoDeckFileIsShort = (file : List ℕ) (cards : List (List ℕ)) → IsDeckFile file cards → short_card_of file ≡ None

-- up to where the short card starts, the file is that of these cards, and what is left is less than a card and not
-- nothing
pub record HasShortCard (file : List ℕ) (start : ℕ) : Type 0 where
  pub cards : List (List ℕ)
  pub before : IsDeckFile (take start file) cards
  pub starts : start < length file
  pub ends : length file < start + columns

abbrev pub ShortFileHasShortCard : Type 0
ShortFileHasShortCard = (file : List ℕ) (start : ℕ) → short_card_of file ≡ Some start → HasShortCard file start
