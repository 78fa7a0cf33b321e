-- The exchange of a tape's media with a change, done twice (kept).
use Rattle.std.proofs.Common.{◌≡◌, List, ap}
use Rattle.s360_device.specs.Kinds.{RestoresBoth}
use Rattle.s360_tape.specs.declared.item.TapeItem.{TapeItem}
use Rattle.s360_tape.specs.declared.slot_change.SlotChange.{SlotChange}
use Rattle.s360_tape.specs.declared.tape_change.TapeChange.{TapeChange}
use Rattle.s360_tape.specs.WholeTape.{WholeTapeMedia, CanSwapTape, tape_after_swap, tape_change_after_swap, tape_kind}
use Rattle.s360_tape.specs.SlotLaws.{CanChangeSlot-again, after_slot-twice, slot_back-twice}

tape_after_swap-twice : (t : WholeTapeMedia) (x : TapeChange) → CanSwapTape t x → tape_after_swap (tape_after_swap t x) (tape_change_after_swap t x) ≡ t
tape_after_swap-twice t x h = ap (λ (slots : List TapeItem). record t { slots = slots }) (after_slot-twice t.slots x.slot h.slot)

CanSwapTape-again : (t : WholeTapeMedia) (x : TapeChange) → CanSwapTape t x → CanSwapTape (tape_after_swap t x) (tape_change_after_swap t x)
CanSwapTape-again t x h = record {
  before = h.after;
  slot = CanChangeSlot-again t.slots x.slot h.slot;
  after = rw (tape_after_swap-twice t x h) h.before;
}

pub tape_change_restores_both : RestoresBoth tape_kind
tape_change_restores_both = record {
  again = CanSwapTape-again;
  media = tape_after_swap-twice;
  change = λ t x can. ap (λ (slot : SlotChange). record x { slot = slot }) (slot_back-twice t.slots x.slot can.slot);
}
