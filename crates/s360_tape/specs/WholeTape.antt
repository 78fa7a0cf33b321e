-- The whole tape (ours): the items that were discarded stay in their slots, out of sight, until a write takes the slot (kept).
-- So what takes a write back needs no memory, and the items that it discarded are seen again.
use Rattle.std.specs.Prelude.{◌≤◌, ℕ, Bool, List, length, take}
use Rattle.s360_device.specs.declared.device_with.DeviceWith.{DeviceWith}
use Rattle.s360_device.specs.DeviceChanges.{seen_device}
use Rattle.s360_device.specs.Kinds.{Kind}
use Rattle.s360_tape.specs.declared.item.TapeItem.{TapeItem}
use Rattle.s360_tape.specs.declared.tape_change.TapeChange.{TapeChange}
use Rattle.s360_tape.specs.Slots.{CanChangeSlot, slots_put, after_slot, slot_back}
use Rattle.s360_tape.specs.Tape.{Tape, TapeMedia, tape_table}

pub record WholeTapeMedia : Type 0 where
  pub slots : List TapeItem
  -- the number of slots whose items can be seen
  pub visible : ℕ
  pub position : ℕ
  pub protected : Bool
  pub unloaded : Bool

abbrev pub WholeTape : Type 0
WholeTape = DeviceWith WholeTapeMedia

-- what is seen of it
abbrev pub seen_media : WholeTapeMedia → TapeMedia
seen_media t = record {
  items = take t.visible t.slots;
  position = t.position;
  protected = t.protected;
  unloaded = t.unloaded;
}

-- the position is among the items that can be seen, or at their end
pub record IsSound (t : WholeTapeMedia) : Type 0 where
  pub inside : t.position ≤ t.visible
  pub held : t.visible ≤ length t.slots

-- the media after the exchange with a change
abbrev pub tape_after_swap : WholeTapeMedia → TapeChange → WholeTapeMedia
tape_after_swap t x = record {
  slots = after_slot t.slots x.slot;
  visible = x.visible;
  position = x.position;
  protected = t.protected;
  unloaded = x.unloaded;
}

-- the change after the exchange
abbrev pub tape_change_after_swap : WholeTapeMedia → TapeChange → TapeChange
tape_change_after_swap t x = record {
  slot = slot_back t.slots x.slot;
  position = t.position;
  visible = t.visible;
  unloaded = t.unloaded;
}

-- the exchange can be made
pub record CanSwapTape (t : WholeTapeMedia) (x : TapeChange) : Type 0 where
  pub before : IsSound t
  pub slot : CanChangeSlot t.slots x.slot
  pub after : IsSound (tape_after_swap t x)

abbrev pub tape_kind : Kind WholeTapeMedia TapeMedia TapeChange
tape_kind = record {
  see = seen_media;
  table = tape_table;
  can = CanSwapTape;
  after = tape_after_swap;
  back = tape_change_after_swap;
  needs = λ x. slots_put x.slot;
}

abbrev pub seen : WholeTape → Tape
seen t = seen_device tape_kind t
