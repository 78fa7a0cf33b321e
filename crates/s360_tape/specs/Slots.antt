-- The slots in which a tape's items lie, and what a command does to them (ours): a slot is put at the end or taken
-- from there, or the item in one is exchanged (kept).
use Rattle.std.specs.Prelude.{ℕ, ◌<◌, List, length, set, get_or}
use Rattle.s360_device.specs.Motions.{CanMove, items_put, after_motion, motion_back}
use Rattle.s360_tape.specs.declared.item.TapeItem.{TapeItem}
use Rattle.s360_tape.specs.declared.slot_change.SlotChange.{SlotChange}
use Rattle.s360_tape.specs.declared.slot_change.SlotChange.TheVariants.{End, At}

-- it can be done
abbrev pub CanChangeSlot : List TapeItem → SlotChange → Type 0
CanChangeSlot slots (End motion) = CanMove slots motion
CanChangeSlot slots (At slot item) = slot < length slots

-- the number of slots for which it needs room
abbrev pub slots_put : SlotChange → ℕ
slots_put (End motion) = items_put motion
slots_put (At slot item) = 0

-- the slots after it
abbrev pub after_slot : List TapeItem → SlotChange → List TapeItem
after_slot slots (End motion) = after_motion slots motion
after_slot slots (At slot item) = set slots slot item

-- what takes it back
abbrev pub slot_back : List TapeItem → SlotChange → SlotChange
slot_back slots (End motion) = End (motion_back slots motion)
slot_back slots (At slot item) = At slot (get_or slots slot item)
