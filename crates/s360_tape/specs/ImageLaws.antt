-- What a tape's file and its first fault are, in other words than those of their definitions.
use Rattle.std.specs.Prelude.{◌≡◌, ◌≤◌, ℕ, List, length, All}
use Rattle.s360_tape.specs.declared.fault.TapeFault.{TapeFault}
use Rattle.s360_tape.specs.declared.item.TapeItem.{TapeItem}
use Rattle.s360_tape.specs.Blocks.{block_limit}
use Rattle.s360_tape.specs.Items.{bytes_of}
use Rattle.s360_tape.specs.Images.{IsTapeFile, HasFault, tape_file}

-- no block has too many bytes
abbrev pub AreShort : List TapeItem → Type 0
AreShort items = All (λ item. length (bytes_of item) ≤ block_limit) items

-- the items of the file of items are the items
abbrev pub FileOfItemsHasThem : Type 0
FileOfItemsHasThem = (items : List TapeItem) → AreShort items → IsTapeFile (tape_file items) items

-- and no others: a file has the items of one tape at most
abbrev pub FileHasItemsOnce : Type 0
FileHasItemsOnce = (file : List ℕ) (items others : List TapeItem) → IsTapeFile file items → IsTapeFile file others → items ≡ others

-- a tape's file has no fault
abbrev pub NoTapeFileHasFault : Type 0
NoTapeFileHasFault = (file : List ℕ) (items : List TapeItem) (fault : TapeFault) → IsTapeFile file items → HasFault file fault → ⊥

-- a file has one first fault at most
abbrev pub FileHasFaultOnce : Type 0
FileHasFaultOnce = (file : List ℕ) (fault other : TapeFault) → HasFault file fault → HasFault file other → fault ≡ other
