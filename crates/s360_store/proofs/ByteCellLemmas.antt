-- Bytes put from an address on.
use Rattle.std.proofs.Common.{◌≡◌, ◌<◌, ◌≤◌, ◌+◌, ◌++◌, ℕ, zero, suc, List, [], ◌∷◌, refl, ap, sym, ◌∙◌, inr, take, get_or, length, arith, append-nil, add-zero, Bool, true, false, append_assoc, take_all, if◌then◌else◌}
use Rattle.s360_model.specs.Core.{core_with_bytes}
use Rattle.s360_store.specs.declared.place.Place.{Place}
use Rattle.s360_store.specs.declared.place.Place.TheVariants.{Byte}
use Rattle.s360_store.specs.declared.place.Cell.{Cell}
use Rattle.s360_store.specs.Cells.{IsFresh, HasEachOnce, byte_cells, places_of_cells}
use Rattle.s360_store.specs.CoreChanges.{AllBefore}
use Rattle.s360_store.specs.PlanParts.{IsPlan}
use Rattle.s360_store.specs.Order.{IsAscending, IsBefore}
use Rattle.s360_store.specs.Plans.{after_put, after_put_bytes, AddsToPlan, HasBytes}
use Rattle.s360_store.proofs.AscendingLemmas.{IsBefore-trans}
use Rattle.s360_store.proofs.PlanLemmas.{HasEachOnce-after_put, IsFresh-push}
use Rattle.s360_store.proofs.PlanPartLemmas.{EndsBefore, IsAscending-push, after_put-fresh}
use Rattle.s360_store.proofs.PutLemmas.{AddsToPlan-byte, AddsToPlan-no_bytes, length-after_put}

-- the byte after
next_byte : (a : ℕ) → IsBefore (Byte a) (Byte (a + 1))
next_byte a = inr (refl, omega arith)

AllBefore-next : (cs : List Cell) (a v : ℕ) → AllBefore cs (Byte a) → AllBefore (cs ++ record { place = Byte a; value = v } ∷ []) (Byte (a + 1))
AllBefore-next [] a v h = (next_byte a, tt)
AllBefore-next (c ∷ cs) a v h = (IsBefore-trans c.place (Byte a) (Byte (a + 1)) h.0 (next_byte a), AllBefore-next cs a v h.1)

-- bytes of which none was put
pub after_put_bytes-new : (cs : List Cell) (a : ℕ) (bs : List ℕ) → ((x : ℕ) → a ≤ x → x < a + length bs → IsFresh (Byte x) cs) → after_put_bytes cs a bs ≡ cs ++ byte_cells a bs
after_put_bytes-new cs a [] h = sym (append-nil cs)
after_put_bytes-new cs a (b ∷ bs) h =
    let x : Cell = record { place = Byte a; value = b }
    in let here : after_put cs (Byte a) b ≡ cs ++ x ∷ [] = after_put-fresh cs (Byte a) b (h a (omega arith) (omega arith))
    in rw here (after_put_bytes-new (cs ++ x ∷ []) (a + 1) bs (λ y l m. IsFresh-push cs x (Byte y) (λ e. let w : y ≡ a = cc in omega (arith, w, l)) (h y (omega arith) (omega (arith, m))))
    ∙ append_assoc cs (x ∷ []) (byte_cells (a + 1) bs))

pub EndsBefore-all : (cs : List Cell) (p : Place) → AllBefore cs p → EndsBefore cs p
EndsBefore-all [] p h = tt
EndsBefore-all (c ∷ []) p h = h.0
EndsBefore-all (c ∷ (d ∷ cs)) p h = EndsBefore-all (d ∷ cs) p h.1

-- cells of bytes ascend
pub IsAscending-bytes : (cs : List Cell) (a : ℕ) (bs : List ℕ) → IsAscending (places_of_cells cs) → AllBefore cs (Byte a) → IsAscending (places_of_cells (cs ++ byte_cells a bs))
IsAscending-bytes cs a [] h k = rw (append-nil cs) h
IsAscending-bytes cs a (b ∷ bs) h k =
    let x : Cell = record { place = Byte a; value = b }
    in rw (append_assoc cs (x ∷ []) (byte_cells (a + 1) bs)) at (IsAscending-bytes (cs ++ x ∷ []) (a + 1) bs (IsAscending-push cs x h (EndsBefore-all cs (Byte a) k)) (AllBefore-next cs a b k))

-- one cell more
pub byte_cells-more : (a : ℕ) (bs : List ℕ) (i : ℕ) → i < length bs → byte_cells a (take (i + 1) bs) ≡ byte_cells a (take i bs) ++ record { place = Byte (a + i); value = get_or bs i 0 } ∷ []
byte_cells-more a [] i h = absurd (omega arith)
byte_cells-more a (b ∷ bs) zero h = rw add-zero refl
byte_cells-more a (b ∷ bs) (suc i) h =
    let x : Cell = record { place = Byte a; value = b }
    in let sum : a + 1 + i ≡ a + suc i = omega arith
    in let one : suc i + 1 ≡ suc (i + 1) = omega arith
    in let later : byte_cells (a + 1) (take (i + 1) bs) ≡ byte_cells (a + 1) (take i bs) ++ record { place = Byte (a + suc i); value = get_or bs i 0 } ∷ [] = rw sum at (byte_cells-more (a + 1) bs i (omega arith))
    in rw one (ap (λ (l : List Cell). x ∷ l) later)

-- the cells of the bytes up to a number, and those after it
pub byte_cells-parts : (a : ℕ) (bs cs : List ℕ) → byte_cells a (bs ++ cs) ≡ byte_cells a bs ++ byte_cells (a + length bs) cs
byte_cells-parts a [] cs = rw add-zero refl
byte_cells-parts a (b ∷ bs) cs =
    let x : Cell = record { place = Byte a; value = b }
    in let sum : a + 1 + length bs ≡ a + suc (length bs) = omega arith
    in let later : byte_cells (a + 1) (bs ++ cs) ≡ byte_cells (a + 1) bs ++ byte_cells (a + suc (length bs)) cs = rw sum at (byte_cells-parts (a + 1) bs cs)
    in ap (λ (l : List Cell). x ∷ l) later

-- puts of bytes keep each place to one cell
pub HasEachOnce-after_put_bytes : (cs : List Cell) (a : ℕ) (bs : List ℕ) → HasEachOnce cs → HasEachOnce (after_put_bytes cs a bs)
HasEachOnce-after_put_bytes cs a [] h = h
HasEachOnce-after_put_bytes cs a (b ∷ bs) h = HasEachOnce-after_put_bytes (after_put cs (Byte a) b) (a + 1) bs (HasEachOnce-after_put cs (Byte a) b h)

-- one byte more
after_put_bytes-more : (cs : List Cell) (a : ℕ) (bs : List ℕ) (i : ℕ) → i < length bs → after_put_bytes cs a (take (i + 1) bs) ≡ after_put (after_put_bytes cs a (take i bs)) (Byte (a + i)) (get_or bs i 0)
after_put_bytes-more cs a [] i h = absurd (omega arith)
after_put_bytes-more cs a (b ∷ bs) zero h = rw add-zero refl
after_put_bytes-more cs a (b ∷ bs) (suc i) h =
    let sum : a + 1 + i ≡ a + suc i = omega arith
    in let one : suc i + 1 ≡ suc (i + 1) = omega arith
    in rw one (rw sum at (after_put_bytes-more (after_put cs (Byte a) b) (a + 1) bs i (omega arith)))

-- what puts of bytes add to a plan
AddsToPlan-first_bytes : (cs : List Cell) (a : ℕ) (bs : List ℕ) → ((i : ℕ) → i < length bs → get_or bs i 0 < 256) → (i : ℕ) → i ≤ length bs
    → AddsToPlan cs (after_put_bytes cs a (take i bs)) i (HasBytes a (length bs)) (core_with_bytes a (take i bs))
AddsToPlan-first_bytes cs a bs fits zero l = AddsToPlan-no_bytes cs a (length bs)
AddsToPlan-first_bytes cs a bs fits (suc i) l =
    let one : i + 1 ≡ suc i = omega arith
    in let within : i < length bs = omega arith
    in let first : AddsToPlan cs (after_put_bytes cs a (take (i + 1) bs)) (i + 1) (HasBytes a (length bs)) (core_with_bytes a (take (i + 1) bs))
    = rw (after_put_bytes-more cs a bs i within) (AddsToPlan-byte cs (after_put_bytes cs a (take i bs)) a bs i within (fits i within) (AddsToPlan-first_bytes cs a bs fits i (omega arith)))
    in rw one at first

pub AddsToPlan-bytes : (cs : List Cell) (a : ℕ) (bs : List ℕ) → ((i : ℕ) → i < length bs → get_or bs i 0 < 256)
    → AddsToPlan cs (after_put_bytes cs a bs) (length bs) (HasBytes a (length bs)) (core_with_bytes a bs)
AddsToPlan-bytes cs a bs fits =
    let all : take (length bs) bs ≡ bs = take_all (length bs) bs (omega arith)
    in rw all at (AddsToPlan-first_bytes cs a bs fits (length bs) (omega arith))

pub length-byte_cells : (a : ℕ) (bs : List ℕ) → length (byte_cells a bs) ≡ length bs
length-byte_cells a [] = refl
length-byte_cells a (b ∷ bs) = ap suc (length-byte_cells (a + 1) bs)

-- puts of bytes leave a plan
length-after_put_bytes : (cs : List Cell) (a : ℕ) (bs : List ℕ) → length (after_put_bytes cs a bs) ≤ length cs + length bs
length-after_put_bytes cs a [] = omega arith
length-after_put_bytes cs a (b ∷ bs) = omega (arith, length-after_put_bytes (after_put cs (Byte a) b) (a + 1) bs, length-after_put cs (Byte a) b)

pub IsPlan-after_put_bytes : (cs ds : List Cell) (a : ℕ) (bs : List ℕ) (done : Bool) → IsPlan cs → length cs + length bs ≤ 1000000 → ds ≡ (if done then after_put_bytes cs a bs else cs) → IsPlan ds
IsPlan-after_put_bytes cs ds a bs true h few e = rw e (record { once = HasEachOnce-after_put_bytes cs a bs h.once; few = omega (arith, few, length-after_put_bytes cs a bs) })
IsPlan-after_put_bytes cs ds a bs false h few e = rw e h
