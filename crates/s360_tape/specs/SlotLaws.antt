-- A change of slots and what takes it back (kept).
use Rattle.std.proofs.Common.{◌≡◌, ◌∙◌, ◌∷◌, ℕ, zero, suc, List, [], set, get_or, refl, ap, arith, length-set}
use Rattle.std.proofs.lemmas.List.{set-get_or, get_or-set_same}
use Rattle.s360_device.specs.MotionLaws.{CanMove-again, after_motion-twice, motion_back-twice}
use Rattle.s360_tape.specs.declared.item.TapeItem.{TapeItem}
use Rattle.s360_tape.specs.declared.slot_change.SlotChange.{SlotChange}
use Rattle.s360_tape.specs.declared.slot_change.SlotChange.TheVariants.{End, At}
use Rattle.s360_tape.specs.Slots.{CanChangeSlot, after_slot, slot_back}

-- the second of two items put into one slot is what it has
set-again : {T : Type 0} (xs : List T) (i : ℕ) (x y : T) → set (set xs i x) i y ≡ set xs i y
set-again [] i x y = refl
set-again (z ∷ zs) zero x y = refl
set-again (z ∷ zs) (suc i) x y = ap (λ rest. z ∷ rest) (set-again zs i x y)

pub CanChangeSlot-again : (slots : List TapeItem) (x : SlotChange) → CanChangeSlot slots x → CanChangeSlot (after_slot slots x) (slot_back slots x)
CanChangeSlot-again slots (End motion) h = CanMove-again slots motion h
CanChangeSlot-again slots (At slot item) h = omega (arith, length-set slots slot item)

pub after_slot-twice : (slots : List TapeItem) (x : SlotChange) → CanChangeSlot slots x → after_slot (after_slot slots x) (slot_back slots x) ≡ slots
after_slot-twice slots (End motion) h = after_motion-twice slots motion h
after_slot-twice slots (At slot item) h = set-again slots slot item (get_or slots slot item) ∙ set-get_or slots slot item

pub slot_back-twice : (slots : List TapeItem) (x : SlotChange) → CanChangeSlot slots x → slot_back (after_slot slots x) (slot_back slots x) ≡ x
slot_back-twice slots (End motion) h = ap (λ m. End m) (motion_back-twice slots motion h)
slot_back-twice slots (At slot item) h = ap (λ (i : TapeItem). At slot i) (get_or-set_same slots slot item (get_or slots slot item) h)
