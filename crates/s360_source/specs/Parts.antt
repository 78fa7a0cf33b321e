-- What something is made of, part by part, and the keys of blocks (ours).
use Rattle.std.specs.Prelude.{ℕ, zero, suc, ◌+◌, ◌-◌, ◌/◌, nat_eq, if◌then◌else◌, List, [], ◌∷◌, ◌++◌}
use Rattle.s360_model.specs.Storage.{block_size}
use Rattle.s360_store.specs.declared.place.Place.{Place}
use Rattle.s360_store.specs.declared.place.Place.TheVariants.{Register, Key}
use Rattle.s360_store.specs.Spans.{byte_places}
use Rattle.s360_source.specs.declared.part.Part.{Part}
use Rattle.s360_source.specs.declared.part.Part.TheVariants.{Place as OnePlace, Address, Bytes, Keys}

-- the registers of an address: register 0 is no part of one
abbrev pub register_part : ℕ → List Place
register_part r = if nat_eq r 0 then [] else Register r ∷ []

abbrev pub address_parts : ℕ → ℕ → List Place
address_parts index base = register_part index ++ register_part base

-- the keys of so many blocks from a number on, and those of the blocks that so many bytes lie in
abbrev pub keys_from : ℕ → ℕ → List Place
keys_from block zero = []
keys_from block (suc n) = Key block ∷ keys_from (block + 1) n

abbrev pub key_places : ℕ → ℕ → List Place
key_places address zero = []
key_places address (suc n) = keys_from (address / block_size) ((address + n) / block_size - address / block_size + 1)

-- the places of a part, and of parts
abbrev pub places_of_part : Part → List Place
places_of_part (OnePlace p) = p ∷ []
places_of_part (Address index base) = address_parts index base
places_of_part (Bytes address count) = byte_places address count
places_of_part (Keys address count) = key_places address count

abbrev pub places_of_parts : List Part → List Place
places_of_parts [] = []
places_of_parts (part ∷ []) = places_of_part part
places_of_parts (part ∷ (next ∷ parts)) = places_of_part part ++ places_of_parts (next ∷ parts)
