-- A plan: the cells that an event puts, each place at most once, in the order of their first puts (kept).
use Rattle.std.specs.Prelude.{◌≡◌, ◌<◌, ◌≤◌, ◌+◌, Bool, Option, Some, None, ℕ, if◌then◌else◌, List, [], ◌∷◌, length}
use Rattle.s360_model.specs.Core.{Core}
use Rattle.s360_model.specs.Storage.{key_limit}
use Rattle.s360_store.specs.declared.place.Place.{Place}
use Rattle.s360_store.specs.declared.place.Place.TheVariants.{Byte}
use Rattle.s360_store.specs.declared.place.Cell.{Cell}
use Rattle.s360_store.specs.Places.{same_place}
use Rattle.s360_store.specs.Cells.{after_exchange, AreCellsOf}

-- the plan after a value is put at a place: it stands in the place's cell, or in a new one at the end
abbrev pub after_put : List Cell → Place → ℕ → List Cell
after_put [] p v = record { place = p; value = v } ∷ []
after_put (c ∷ cs) p v = if same_place c.place p then record { place = c.place; value = v } ∷ cs else (c ∷ after_put cs p v)

-- the plan after bytes are put from an address on
abbrev pub after_put_bytes : List Cell → ℕ → List ℕ → List Cell
after_put_bytes plan address [] = plan
after_put_bytes plan address (b ∷ bs) = after_put_bytes (after_put plan (Byte address) b) (address + 1) bs

-- the same, where they were put
abbrev pub after_put_if : Bool → List Cell → ℕ → List ℕ → List Cell
after_put_if done plan address bytes = if done then after_put_bytes plan address bytes else plan

-- the value that a plan has for a place
abbrev pub planned_value : List Cell → Place → Option ℕ
planned_value [] p = None
planned_value (c ∷ cs) p = if same_place c.place p then Some c.value else planned_value cs p

-- the plan makes the second core of the first
pub record IsPlanOf (m : Core) (plan : List Cell) (n : Core) : Type 0 where
  pub cells : AreCellsOf m plan
  pub makes : after_exchange m plan ≡ n

-- puts make of the plan of each core that has their places that of the core after them, and add at most so
-- many cells
pub record AddsToPlan (old new : List Cell) (count : ℕ) (HasPlaces : Core → Type 0) (after : Core → Core) : Type 0 where
  pub makes : (m n : Core) → HasPlaces m → IsPlanOf m old n → IsPlanOf m new (after n)
  pub few : length new ≤ length old + count

-- the core has a register, a run of bytes, a block
abbrev pub HasRegister : ℕ → Core → Type 0
HasRegister r m = r < length m.registers

abbrev pub HasBytes : ℕ → ℕ → Core → Type 0
HasBytes address count m = address + count ≤ length m.storage.bytes

abbrev pub HasBlock : ℕ → Core → Type 0
HasBlock block m = block < length m.storage.keys

-- it has the block, which can have this number for its key and fetch bit
abbrev pub CanHaveKey : ℕ → ℕ → Core → Type 0
CanHaveKey block key m = HasBlock block m × (key < key_limit m.storage.fetch_protection)

-- the core has the sixteen general registers
abbrev pub HasRegisters : Core → Type 0
HasRegisters m = length m.registers ≡ 16

-- each core has a PSW
abbrev pub HasPsw : Core → Type 0
HasPsw m = Unit {0}
