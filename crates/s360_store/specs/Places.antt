-- The places of the core: what stands at one, and the core with another value there.
use Rattle.std.specs.Prelude.{ℕ, ◌<◌, ◌^◌, Bool, true, false, nat_eq, length, slice_index, slice_set, MatchOption, Option, None, Some, List}
use Rattle.std.specs.List.{list_any}
use Rattle.std.specs.Option.{option_map_or}
use Rattle.s360_model.specs.Core.{Core, core_with_key, core_with_psw, core_with_word}
use Rattle.s360_model.specs.Psw.{IsCurrentPsw}
use Rattle.s360_model.specs.Storage.{Storage, key_limit}
use Rattle.s360_store.specs.declared.place.Place.{Place}
use Rattle.s360_store.specs.declared.place.Place.TheVariants.{Psw, Register, Byte, Key, Run, External, UnitState, UnitMedia}

-- the two places are one
abbrev pub same_place : Place → Place → Bool
same_place Psw Psw = true
same_place (Register n) (Register k) = nat_eq n k
same_place (Byte n) (Byte k) = nat_eq n k
same_place (Key n) (Key k) = nat_eq n k
same_place Run Run = true
same_place External External = true
same_place (UnitState u) (UnitState v) = nat_eq u.0 v.0
same_place (UnitMedia u) (UnitMedia v) = nat_eq u.0 v.0
same_place p q = false

-- one of the places is this one
abbrev pub is_among : List Place → Place → Bool
is_among ps p = list_any (λ q. same_place q p) ps

-- the places that a core has: its PSW, the registers by their numbers, the bytes by their addresses, and the
-- storage keys, with the fetch bits, by the numbers of their blocks
pub data CorePlace : Type 0 where
  psw : CorePlace
  register byte key : ℕ → CorePlace

-- a place as one of the core, where it is one
abbrev pub core_place_of : Place → Option CorePlace
core_place_of Psw = Some psw
core_place_of (Register n) = Some (register n)
core_place_of (Byte a) = Some (byte a)
core_place_of (Key b) = Some (key b)
core_place_of p = None

-- the core has such a place
abbrev pub HasPlace : Core → CorePlace → Type 0
HasPlace m psw = Unit {0}
HasPlace m (register n) = n < length m.registers
HasPlace m (byte a) = a < length m.storage.bytes
HasPlace m (key b) = b < length m.storage.keys

-- the number is one that the place can hold, where fetches are protected or are not
abbrev pub CanHold : Bool → CorePlace → ℕ → Type 0
CanHold fetch_protection psw v = IsCurrentPsw v
CanHold fetch_protection (register n) v = v < 2 ^ 32
CanHold fetch_protection (byte a) v = v < 256
CanHold fetch_protection (key b) v = v < key_limit fetch_protection

-- what stands there
abbrev pub core_value : Core → CorePlace → ℕ
core_value m psw = m.psw
core_value m (register n) = slice_index m.registers n
core_value m (byte a) = slice_index m.storage.bytes a
core_value m (key b) = slice_index m.storage.keys b

-- the core with another value there
abbrev pub core_with_value : CorePlace → ℕ → Core → Core
core_with_value psw v m = core_with_psw v m
core_with_value (register n) v m = core_with_word n v m
core_with_value (byte a) v m = record m { storage = record m.storage { bytes = slice_set m.storage.bytes a v } }
core_with_value (key b) v m = core_with_key b v m

-- the numbers are such as blocks have for their keys and fetch bits
abbrev pub AreBlockKeys : Bool → List ℕ → Type 0
AreBlockKeys fetch_protection keys = (b : ℕ) → b < length keys → slice_index keys b < key_limit fetch_protection

-- the place is one of the core
abbrev pub IsPlaceOf : Core → Place → Type 0
IsPlaceOf m p = MatchOption (core_place_of p) ⊥ (HasPlace m)

-- the number is one that a place of a core can hold, where fetches are protected or are not
abbrev pub Fits : Bool → Place → ℕ → Type 0
Fits fetch_protection p v = MatchOption (core_place_of p) ⊥ (λ q. CanHold fetch_protection q v)

-- what stands at a place of the core
abbrev pub value_at : Core → Place → ℕ
value_at m p = option_map_or (core_value m) (core_place_of p) 0

-- the core with another value at a place of it
abbrev pub with_value : Core → Place → ℕ → Core
with_value m p v = option_map_or (λ q. core_with_value q v m) (core_place_of p) m

-- the place is a byte or a storage key of the storage
abbrev pub IsStoragePlace : Storage → Place → Type 0
IsStoragePlace s (Byte a) = a < length s.bytes
IsStoragePlace s (Key b) = b < length s.keys
IsStoragePlace s p = ⊥

-- what stands there
abbrev pub storage_value : Storage → Place → ℕ
storage_value s (Byte a) = slice_index s.bytes a
storage_value s (Key b) = slice_index s.keys b
storage_value s p = 0

-- the storage with another value there
abbrev pub with_storage_value : Storage → Place → ℕ → Storage
with_storage_value s (Byte a) v = record s { bytes = slice_set s.bytes a v }
with_storage_value s (Key b) v = record s { keys = slice_set s.keys b v }
with_storage_value s p v = s
