-- What stands at a place after a value was put at a place, and what stays.
use Rattle.std.proofs.Common.{◌≡◌, ℕ, ◌≢◌, refl, ap, sym}
use Rattle.std.proofs.lemmas.List.{get_or-set_same, get_or-set_other, set-set, set_comm, set-get_or, length-set}
use Rattle.s360_model.specs.Core.{Core}
use Rattle.s360_store.specs.declared.place.Place.{Place}
use Rattle.s360_store.specs.declared.place.Place.TheVariants.{Psw, Register, Byte, Key}
use Rattle.s360_store.specs.Places.{IsPlaceOf, value_at, with_value}

pub value_at-same : (m : Core) (p : Place) (v : ℕ) → IsPlaceOf m p → value_at (with_value m p v) p ≡ v
value_at-same m Psw v h = refl
value_at-same m (Register n) v h = get_or-set_same m.registers n v 0 h
value_at-same m (Byte a) v h = get_or-set_same m.storage.bytes a v 0 h
value_at-same m (Key b) v h = get_or-set_same m.storage.keys b v 0 h
value_at-same m p v h = absurd h

pub value_at-other : (m : Core) (p q : Place) (v : ℕ) → p ≢ q → value_at (with_value m p v) q ≡ value_at m q
value_at-other m Psw Psw v h = absurd (h refl)
value_at-other m (Register n) (Register k) v h = get_or-set_other m.registers n k v 0 (λ e. h (ap (λ i. Register i) (sym e)))
value_at-other m (Byte n) (Byte k) v h = get_or-set_other m.storage.bytes n k v 0 (λ e. h (ap (λ i. Byte i) (sym e)))
value_at-other m (Key n) (Key k) v h = get_or-set_other m.storage.keys n k v 0 (λ e. h (ap (λ i. Key i) (sym e)))
value_at-other m p q v h = refl

pub with_value-twice : (m : Core) (p : Place) (v w : ℕ) → with_value (with_value m p v) p w ≡ with_value m p w
with_value-twice m Psw v w = refl
with_value-twice m (Register n) v w = ap (λ l. record m { registers = l }) (set-set m.registers n v w)
with_value-twice m (Byte a) v w = ap (λ l. record m { storage = record m.storage { bytes = l } }) (set-set m.storage.bytes a v w)
with_value-twice m (Key b) v w = ap (λ l. record m { storage = record m.storage { keys = l } }) (set-set m.storage.keys b v w)
with_value-twice m p v w = refl

pub with_value-same_value : (m : Core) (p : Place) → with_value m p (value_at m p) ≡ m
with_value-same_value m Psw = refl
with_value-same_value m (Register n) = ap (λ l. record m { registers = l }) (set-get_or m.registers n 0)
with_value-same_value m (Byte a) = ap (λ l. record m { storage = record m.storage { bytes = l } }) (set-get_or m.storage.bytes a 0)
with_value-same_value m (Key b) = ap (λ l. record m { storage = record m.storage { keys = l } }) (set-get_or m.storage.keys b 0)
with_value-same_value m p = refl

pub with_value-comm : (m : Core) (p q : Place) (v w : ℕ) → p ≢ q → with_value (with_value m p v) q w ≡ with_value (with_value m q w) p v
with_value-comm m Psw Psw v w h = absurd (h refl)
with_value-comm m (Register n) (Register k) v w h = ap (λ l. record m { registers = l }) (set_comm m.registers n k v w (λ e. h (ap (λ i. Register i) e)))
with_value-comm m (Byte n) (Byte k) v w h = ap (λ l. record m { storage = record m.storage { bytes = l } }) (set_comm m.storage.bytes n k v w (λ e. h (ap (λ i. Byte i) e)))
with_value-comm m (Key n) (Key k) v w h = ap (λ l. record m { storage = record m.storage { keys = l } }) (set_comm m.storage.keys n k v w (λ e. h (ap (λ i. Key i) e)))
with_value-comm m p q v w h = refl

pub IsPlaceOf-kept : (m : Core) (p q : Place) (v : ℕ) → IsPlaceOf m q → IsPlaceOf (with_value m p v) q
IsPlaceOf-kept m (Register n) (Register k) v h = rw length-set h
IsPlaceOf-kept m (Byte n) (Byte k) v h = rw length-set h
IsPlaceOf-kept m (Key n) (Key k) v h = rw length-set h
IsPlaceOf-kept m p q v h = h

pub fetch_protection-kept : (m : Core) (p : Place) (v : ℕ) → (with_value m p v).storage.fetch_protection ≡ m.storage.fetch_protection
fetch_protection-kept m (Register n) v = refl
fetch_protection-kept m (Byte n) v = refl
fetch_protection-kept m (Key n) v = refl
fetch_protection-kept m p v = refl

pub IsPlaceOf-before : (m : Core) (p q : Place) (v : ℕ) → IsPlaceOf (with_value m p v) q → IsPlaceOf m q
IsPlaceOf-before m (Register n) (Register k) v h = rw length-set at h
IsPlaceOf-before m (Byte n) (Byte k) v h = rw length-set at h
IsPlaceOf-before m (Key n) (Key k) v h = rw length-set at h
IsPlaceOf-before m p q v h = h
