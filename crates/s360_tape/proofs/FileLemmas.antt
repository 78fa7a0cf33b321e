-- The file of items is that of a tape with these items.
use Rattle.std.proofs.Common.{◌≤◌, ◌/◌, ◌%◌, ◌++◌, ◌∷◌, ℕ, List, [], None, length, sym, append_assoc, append-nil}
use Rattle.std.proofs.lemmas.List.Elements.{All-head, All-tail}
use Rattle.s360_tape.specs.declared.item.TapeItem.{TapeItem}
use Rattle.s360_tape.specs.declared.item.TapeItem.TheVariants.{Block, Mark}
use Rattle.s360_tape.specs.Blocks.{block_limit}
use Rattle.s360_tape.specs.Items.{bytes_of}
use Rattle.s360_tape.specs.Parts.{Unchecked}
use Rattle.s360_tape.specs.Images.{Begins, nothing, mark, whole_block, IsTapeFile, item_file, items_file, tape_file}
use Rattle.s360_tape.specs.ImageLaws.{AreShort}

abbrev free_after : ℕ → Unchecked
free_after previous = record { previous_low = previous % 256; previous_high = previous / 256; last = 0 }

Begins-item : (file : List ℕ) (done : List TapeItem) (previous : ℕ) (item : TapeItem) → Begins file done None → length (bytes_of item) ≤ block_limit → Begins (file ++ item_file previous item) (done ++ item ∷ []) None
Begins-item file done previous Mark b h = mark file done (free_after previous) b
Begins-item file done previous (Block bytes) b h = whole_block file done bytes (free_after previous) b h

Begins-items : (items : List TapeItem) (file : List ℕ) (done : List TapeItem) (previous : ℕ) → Begins file done None → AreShort items → Begins (file ++ items_file previous items) (done ++ items) None
Begins-items [] file done previous b h = rw (append-nil file, append-nil done) b
Begins-items (item ∷ items) file done previous b h =
    let count : ℕ = length (bytes_of item)
    in let first : count ≤ block_limit = All-head (λ (i : TapeItem). length (bytes_of i) ≤ block_limit) item items h
    in let rest : AreShort items = All-tail (λ (i : TapeItem). length (bytes_of i) ≤ block_limit) item items h
    in rw (sym (append_assoc file (item_file previous item) (items_file count items)), sym (append_assoc done (item ∷ []) items))
    (Begins-items items (file ++ item_file previous item) (done ++ item ∷ []) count (Begins-item file done previous item b first) rest)

pub file_of_items_has_them : (items : List TapeItem) → AreShort items → IsTapeFile (tape_file items) items
file_of_items_has_them items h = Begins-items items [] [] 0 nothing h
