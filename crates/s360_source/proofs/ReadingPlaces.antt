-- The places that readings of operands read, by the parts that they are made of.
use Rattle.std.proofs.Common.{ℕ, zero, suc, ◌+◌, ◌%◌, ◌^◌, ◌≡◌, ◌∙◌, ◌&&◌, ◌++◌, not, Bool, true, false, cond, [], ◌∷◌, refl, ap, nat_eq, nat_le, length}
use Rattle.s360_model.specs.{Psw.protection_key_of}
use Rattle.s360_store.specs.declared.place.Place.TheVariants.{Psw, Register, Byte, Key}
use Rattle.s360_store.specs.declared.protection.{Access.Access, Checked.Checked}
use Rattle.s360_store.specs.Spans.{byte_places}
use Rattle.s360_fixed.specs.Operands.{conditions_of}
use Rattle.s360_fixed.specs.declared.row.Combination.{Combination}
use Rattle.s360_fixed.specs.Rows.{result_of}
use Rattle.s360_machine.specs.Machine.{Machine}
use Rattle.s360_footprint.specs.OperandReadings.{access_read, address_read, conditions_read, guards, keys_read, met_with, number_read, operand_keys_read}
use Rattle.s360_footprint.specs.OperandReadings.{bytes_read, profile_of}
use Rattle.s360_footprint.specs.Readings.{Reading, bind, done, places_read, read, value_read}
use Rattle.s360_footprint.specs.RegisterRows.{result_read, uses_first}
use Rattle.s360_source.specs.Parts.{address_parts, key_places, keys_from}
use Rattle.s360_source.specs.Walks.{looks_at_keys, places_used}

-- something more is made of what was read, and nothing is read for it
pub mapped : {X Y : Type 0} (r : Reading X) (f : X → Y) (m : Machine) → places_read (bind r (λ x. done (f x))) m ≡ places_read r m
mapped (done x) f m = refl
mapped (read p next) f m = ap (λ ps. p ∷ ps) (mapped (next _) f m)

-- bytes, keys and addresses
pub number-places : (address n : ℕ) (m : Machine) → places_read (number_read address n) m ≡ byte_places address n
number-places address zero m = refl
number-places address (suc n) m = ap (λ ps. Byte address ∷ ps) (mapped (number_read (address + 1) n) _ m ∙ number-places (address + 1) n m)

pub bytes-places : (address n : ℕ) (m : Machine) → places_read (bytes_read address n) m ≡ byte_places address n
bytes-places address zero m = refl
bytes-places address (suc n) m = ap (λ ps. Byte address ∷ ps) (mapped (bytes_read (address + 1) n) _ m ∙ bytes-places (address + 1) n m)

keys-places : (block n : ℕ) (m : Machine) → places_read (keys_read block n) m ≡ keys_from block n
keys-places block zero m = refl
keys-places block (suc n) m = ap (λ ps. Key block ∷ ps) (mapped (keys_read (block + 1) n) _ m ∙ keys-places (block + 1) n m)

operand-keys-places : (address n : ℕ) (m : Machine) → places_read (operand_keys_read address n) m ≡ key_places address n
operand-keys-places address zero m = refl
operand-keys-places address (suc n) m = keys-places _ _ m

pub address-places : (index base displacement : ℕ) (m : Machine) → places_read (address_read index base displacement) m ≡ address_parts index base
address-places index base displacement m = by (nat_eq index 0) (nat_eq base 0) where
  by : (x y : Bool)
      → places_read (bind (cond x (done 0) (value_read (Register index)))
      (λ i. bind (cond y (done 0) (value_read (Register base))) (λ b. done ((i + b + displacement) % 2 ^ 24)))) m
      ≡ cond x [] (Register index ∷ []) ++ cond y [] (Register base ∷ [])
  by true true = refl
  by true false = refl
  by false true = refl
  by false false = refl

-- an access
pub access-places : (address count : ℕ) (kind : Access) (key : ℕ) (m : Machine)
    → places_read (access_read (profile_of m.core) address count kind key) m
    ≡ cond (nat_le (address + count) (length m.core.storage.bytes) && (guards (profile_of m.core) kind && not (nat_eq key 0))) (key_places address count) []
access-places address count kind key m =
    by (nat_le (address + count) (length m.core.storage.bytes)) (guards (profile_of m.core) kind && not (nat_eq key 0)) where
      by : (inside looks : Bool)
          → places_read (cond (not inside) (done Checked.Addressing)
          (cond looks (bind (operand_keys_read address count) (λ keys. done (met_with kind key keys))) (done Checked.Clear))) m
          ≡ cond (inside && looks) (key_places address count) []
      by false looks = refl
      by true false = refl
      by true true = mapped (operand_keys_read address count) (met_with kind key) m ∙ operand-keys-places address count m

pub conditions-places : (address boundary count : ℕ) (kind : Access) (m : Machine)
    → places_read (conditions_read (profile_of m.core) address boundary count kind) m
    ≡ Psw ∷ (cond (looks_at_keys m.core address count kind) (key_places address count) [])
conditions-places address boundary count kind m =
    ap (λ ps. Psw ∷ ps)
    (mapped (access_read (profile_of m.core) address count kind (protection_key_of m.core.psw))
    (λ met. record (conditions_of met) { specification = not (nat_eq (address % boundary) 0) }) m
    ∙ access-places address count kind (protection_key_of m.core.psw) m)

-- R1 combined with a second operand
pub result-places : (c : Combination) (r1 : ℕ) (second : Reading ℕ) (m : Machine)
    → places_read (result_read c r1 second) m ≡ places_used c r1 (places_read second m)
result-places c r1 second m = by (uses_first c) where
  by : (z : Bool)
      → places_read (cond z (read (Register r1) (λ a. bind second (λ b. done (result_of c a b)))) (bind second (λ b. done (result_of c 0 b)))) m
      ≡ cond z (Register r1 ∷ places_read second m) (places_read second m)
  by true = ap (λ ps. Register r1 ∷ ps) (mapped second (λ b. result_of c _ b) m)
  by false = mapped second (λ b. result_of c 0 b) m
