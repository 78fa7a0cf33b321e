-- What puts add to a plan.
use Rattle.std.proofs.Common.{◌≡◌, ◌<◌, ◌≤◌, ◌+◌, ◌++◌, ℕ, List, [], ◌∷◌, refl, Bool, true, false, cond, length, take, drop, set, get_or, arith, ap, add-zero}
use Rattle.std.proofs.lemmas.List.{take_more, set_at, drop_more, take-append-drop, append_assoc, length-append, length-take-le, append-nil}
use Rattle.s360_model.specs.Core.{Core, core_with_bytes, core_with_key}
use Rattle.s360_store.specs.declared.place.Place.{Place}
use Rattle.s360_store.specs.declared.place.Place.TheVariants.{Byte, Key}
use Rattle.s360_store.specs.declared.place.Cell.{Cell}
use Rattle.s360_store.specs.Places.{same_place, with_value, IsPlaceOf, Fits}
use Rattle.s360_store.specs.Cells.{AreCellsOf, after_exchange}
use Rattle.s360_store.specs.Plans.{after_put, AddsToPlan, CanHaveKey, HasBytes, IsPlanOf}
use Rattle.s360_store.proofs.PlannedLemmas.{IsPlanOf-put}
use Rattle.s360_store.proofs.ExchangeLemmas.{IsPlaceOf-after_exchange}

pub length-after_put : (cs : List Cell) (p : Place) (v : ℕ) → length (after_put cs p v) ≤ length cs + 1
length-after_put [] p v = omega arith
length-after_put (c ∷ cs) p v =
    let by : (b : Bool) → length (cond b (record { place = c.place; value = v } ∷ cs) (c ∷ after_put cs p v)) ≤ length (c ∷ cs) + 1
    = λ b. elim b as (λ x. length (cond x (record { place = c.place; value = v } ∷ cs) (c ∷ after_put cs p v)) ≤ length (c ∷ cs) + 1)
    [ true ↦ omega arith | false ↦ let rest : length (after_put cs p v) ≤ length cs + 1 = length-after_put cs p v in omega arith ]
    in by (same_place c.place p)

-- one put, of a value that fits the place in each core
pub AddsToPlan-put : (cs : List Cell) (p : Place) (v : ℕ) → ((b : Bool) → Fits b p v) → AddsToPlan cs (after_put cs p v) 1 (λ m. IsPlaceOf m p) (λ n. with_value n p v)
AddsToPlan-put cs p v f = record {
  makes = λ m n i h. IsPlanOf-put m cs n p v h i (f m.storage.fetch_protection);
  few = length-after_put cs p v;
}

-- one put of a key and a fetch bit
pub AddsToPlan-key : (cs : List Cell) (block key : ℕ) → AddsToPlan cs (after_put cs (Key block) key) 1 (CanHaveKey block key) (core_with_key block key)
AddsToPlan-key cs block key = record {
  makes = λ m n i h. IsPlanOf-put m cs n (Key block) key h i.0 i.1;
  few = length-after_put cs (Key block) key;
}

-- no put
pub AddsToPlan-none : (cs : List Cell) (count : ℕ) (P : Core → Type 0) → AddsToPlan cs cs count P (λ n. n)
AddsToPlan-none cs count P = record { makes = λ m n i h. h; few = omega arith }

-- puts and then more
pub AddsToPlan-then : (p q r : List Cell) (a b : ℕ) (P Q : Core → Type 0) (f g : Core → Core) → AddsToPlan p q a P f → AddsToPlan q r b Q g
    → AddsToPlan p r (a + b) (λ m. P m × Q m) (λ n. g (f n))
AddsToPlan-then p q r a b P Q f g u v = record {
  makes = λ m n i h. v.makes m (f n) i.1 (u.makes m n i.0 h);
  few = let x : length q ≤ length p + a = u.few in let y : length r ≤ length q + b = v.few in omega arith;
}

-- what a plan makes has the places of the core
pub IsPlaceOf-plan : (m : Core) (cs : List Cell) (n : Core) (p : Place) → IsPlanOf m cs n → IsPlaceOf m p → IsPlaceOf n p
IsPlaceOf-plan m cs n p h i = rw (← h.makes) (IsPlaceOf-after_exchange m cs p i)

spliced-more : (xs bs : List ℕ) (at i : ℕ) → i < length bs → at + i < length xs
    → set (take at xs ++ take i bs ++ drop (at + length (take i bs)) xs) (at + i) (get_or bs i 0) ≡ take at xs ++ take (i + 1) bs ++ drop (at + length (take (i + 1) bs)) xs
spliced-more xs bs at i h inner =
    let n : length (take i bs) ≡ i = length-take-le i bs (omega arith)
    in let n1 : length (take (i + 1) bs) ≡ i + 1 = length-take-le (i + 1) bs (omega arith)
    in let na : length (take at xs) ≡ at = length-take-le at xs (omega arith)
    in let front : length (take at xs ++ take i bs) ≡ at + i = omega (arith, length-append (take at xs) (take i bs))
    in let next : at + (i + 1) ≡ at + i + 1 = omega arith
    in rw (n, n1, drop_more xs (at + i) 0 inner, set_at _ _ _ (get_or bs i 0) (at + i) front, take_more bs i 0 h, next) (simp append_assoc)

pub core_with_bytes-more : (n : Core) (at : ℕ) (bs : List ℕ) (i : ℕ) → i < length bs → at + i < length n.storage.bytes
    → with_value (core_with_bytes at (take i bs) n) (Byte (at + i)) (get_or bs i 0) ≡ core_with_bytes at (take (i + 1) bs) n
core_with_bytes-more n at bs i h l = ap (λ x. record n { storage = record n.storage { bytes = x } }) (spliced-more n.storage.bytes bs at i h l)

pub core_with_bytes-none : (n : Core) (at : ℕ) → core_with_bytes at [] n ≡ n
core_with_bytes-none n at =
    let e : take at n.storage.bytes ++ [] ++ drop (at + 0) n.storage.bytes ≡ n.storage.bytes
    = rw (add-zero, append-nil) (take-append-drop at n.storage.bytes)
    in ap (λ l. record n { storage = record n.storage { bytes = l } }) e

-- no bytes, and one byte more
pub AddsToPlan-no_bytes : (cs : List Cell) (at count : ℕ) → AddsToPlan cs cs 0 (HasBytes at count) (core_with_bytes at [])
AddsToPlan-no_bytes cs at count = record {
  makes = λ m n i h. rw (core_with_bytes-none n at) h;
  few = omega arith;
}

pub AddsToPlan-byte : (old now : List Cell) (at : ℕ) (bs : List ℕ) (i : ℕ) → i < length bs → get_or bs i 0 < 256
    → AddsToPlan old now i (HasBytes at (length bs)) (core_with_bytes at (take i bs))
    → AddsToPlan old (after_put now (Byte (at + i)) (get_or bs i 0)) (i + 1) (HasBytes at (length bs)) (core_with_bytes at (take (i + 1) bs))
AddsToPlan-byte old now at bs i h fits u = record {
  makes = λ m n l p.
      let here : at + i < length m.storage.bytes = omega (arith, l, h)
      in let inside : at + i < length n.storage.bytes = IsPlaceOf-plan m old n (Byte (at + i)) p here
      in rw (← core_with_bytes-more n at bs i h inside)
      (IsPlanOf-put m now (core_with_bytes at (take i bs) n) (Byte (at + i)) (get_or bs i 0) (u.makes m n l p) here fits);
  few = let x : length now ≤ length old + i = u.few in let y : length (after_put now (Byte (at + i)) (get_or bs i 0)) ≤ length now + 1 = length-after_put now (Byte (at + i)) (get_or bs i 0) in omega arith;
}

-- what puts make of the core before the event, which has their places
pub IsPlanOf-puts : (m : Core) (old new : List Cell) (count : ℕ) (P : Core → Type 0) (after : Core → Core) → AddsToPlan old new count P after → P m → AreCellsOf m old
    → IsPlanOf m new (after (after_exchange m old))
IsPlanOf-puts m old new count P after h p cells = h.makes m (after_exchange m old) p (record { cells = cells; makes = refl })
