-- An exchange done twice restores the core and the cells.
use Rattle.std.proofs.Common.{◌≡◌, ℕ, Bool, true, false, List, [], ◌∷◌, refl, ap, sym, ◌∙◌, arith}
use Rattle.s360_model.specs.Core.{Core}
use Rattle.s360_store.specs.declared.place.Place.{Place}
use Rattle.s360_store.specs.declared.place.Place.TheVariants.{Psw, Register, Byte, Key}
use Rattle.s360_store.specs.declared.place.Cell.{Cell}
use Rattle.s360_store.specs.Places.{IsPlaceOf, Fits, value_at, with_value}
use Rattle.s360_store.specs.Cells.{after_exchange, cells_after_exchange, IsFresh, AreCellsOf, AllFit, places_of_cells}
use Rattle.s360_store.proofs.PlaceLemmas.{value_at-same, value_at-other, with_value-twice, with_value-same_value, with_value-comm, IsPlaceOf-kept, IsPlaceOf-before, fetch_protection-kept}

-- a place that no cell has keeps its value
pub value_at-after_exchange : (m : Core) (cs : List Cell) (p : Place) → IsFresh p cs → value_at (after_exchange m cs) p ≡ value_at m p
value_at-after_exchange m [] p h = refl
value_at-after_exchange m (c ∷ cs) p h =
    value_at-after_exchange (with_value m c.place c.value) cs p h.1 ∙ value_at-other m c.place p c.value (λ e. h.0 (sym e))

-- a value at such a place may be put there before or after
pub after_exchange-with_value : (m : Core) (cs : List Cell) (p : Place) (v : ℕ) → IsFresh p cs → after_exchange (with_value m p v) cs ≡ with_value (after_exchange m cs) p v
after_exchange-with_value m [] p v h = refl
after_exchange-with_value m (c ∷ cs) p v h =
    ap (λ n. after_exchange n cs) (with_value-comm m p c.place v c.value h.0) ∙ after_exchange-with_value (with_value m c.place c.value) cs p v h.1

pub cells_after_exchange-with_value : (m : Core) (cs : List Cell) (p : Place) (v : ℕ) → IsFresh p cs → cells_after_exchange (with_value m p v) cs ≡ cells_after_exchange m cs
cells_after_exchange-with_value m [] p v h = refl
cells_after_exchange-with_value m (c ∷ cs) p v h =
    let e : cells_after_exchange (with_value (with_value m p v) c.place c.value) cs ≡ cells_after_exchange (with_value m c.place c.value) cs
    = ap (λ n. cells_after_exchange n cs) (with_value-comm m p c.place v c.value h.0) ∙ cells_after_exchange-with_value (with_value m c.place c.value) cs p v h.1
    in let f : value_at (with_value m p v) c.place ≡ value_at m c.place = value_at-other m p c.place v h.0
    in cc

pub IsFresh-cells_after_exchange : (m : Core) (cs : List Cell) (p : Place) → IsFresh p cs → IsFresh p (cells_after_exchange m cs)
IsFresh-cells_after_exchange m [] p h = tt
IsFresh-cells_after_exchange m (c ∷ cs) p h = (h.0, IsFresh-cells_after_exchange (with_value m c.place c.value) cs p h.1)

pub AreCellsOf-kept : (m : Core) (cs : List Cell) (p : Place) (v : ℕ) → AreCellsOf m cs → AreCellsOf (with_value m p v) cs
AreCellsOf-kept m [] p v h = tt
AreCellsOf-kept m (c ∷ cs) p v h = (IsPlaceOf-kept m p c.place v h.0, rw (fetch_protection-kept m p v) h.1, h.2, AreCellsOf-kept m cs p v h.3)

-- the exchange, done twice, restores the core
pub after_exchange-twice : (m : Core) (cs : List Cell) → AreCellsOf m cs → after_exchange (after_exchange m cs) (cells_after_exchange m cs) ≡ m
after_exchange-twice m [] h = refl
after_exchange-twice m (c ∷ cs) h =
    let n : Core = with_value m c.place c.value
    in let rest : AreCellsOf n cs = AreCellsOf-kept m cs c.place c.value h.3
    in after_exchange-with_value (after_exchange n cs) (cells_after_exchange n cs) c.place (value_at m c.place) (IsFresh-cells_after_exchange n cs c.place h.2)
    ∙ ap (λ k. with_value k c.place (value_at m c.place)) (after_exchange-twice n cs rest)
    ∙ with_value-twice m c.place c.value (value_at m c.place)
    ∙ with_value-same_value m c.place

-- and the cells
pub cells_after_exchange-twice : (m : Core) (cs : List Cell) → AreCellsOf m cs → cells_after_exchange (after_exchange m cs) (cells_after_exchange m cs) ≡ cs
cells_after_exchange-twice m [] h = refl
cells_after_exchange-twice m (c ∷ cs) h =
    let n : Core = with_value m c.place c.value
    in let rest : AreCellsOf n cs = AreCellsOf-kept m cs c.place c.value h.3
    in let v : value_at (after_exchange n cs) c.place ≡ c.value
    = value_at-after_exchange n cs c.place h.2 ∙ value_at-same m c.place c.value h.0
    in let t : cells_after_exchange (with_value (after_exchange n cs) c.place (value_at m c.place)) (cells_after_exchange n cs) ≡ cs
    = cells_after_exchange-with_value (after_exchange n cs) (cells_after_exchange n cs) c.place (value_at m c.place) (IsFresh-cells_after_exchange n cs c.place h.2) ∙ cells_after_exchange-twice n cs rest
    in ap (λ x. record { place = c.place; value = x } ∷ cells_after_exchange (with_value (after_exchange n cs) c.place (value_at m c.place)) (cells_after_exchange n cs)) v
    ∙ ap (λ l. c ∷ l) t

-- what an exchange leaves may be exchanged again
pub AreCellsOf-cells_after_exchange : (m n : Core) (cs : List Cell) → ((p : Place) → IsPlaceOf m p → IsPlaceOf n p) → AreCellsOf m cs → AllFit n.storage.fetch_protection (cells_after_exchange m cs) → AreCellsOf n (cells_after_exchange m cs)
AreCellsOf-cells_after_exchange m n [] k h f = tt
AreCellsOf-cells_after_exchange m n (c ∷ cs) k h f =
    let o : Core = with_value m c.place c.value
    in (
      k c.place h.0,
      f.0,
      IsFresh-cells_after_exchange o cs c.place h.2,
      AreCellsOf-cells_after_exchange o n cs (λ p i. k p (IsPlaceOf-before m c.place p c.value i)) (AreCellsOf-kept m cs c.place c.value h.3) f.1,
    )

pub IsPlaceOf-after_exchange : (m : Core) (cs : List Cell) (p : Place) → IsPlaceOf m p → IsPlaceOf (after_exchange m cs) p
IsPlaceOf-after_exchange m [] p h = h
IsPlaceOf-after_exchange m (c ∷ cs) p h = IsPlaceOf-after_exchange (with_value m c.place c.value) cs p (IsPlaceOf-kept m c.place p c.value h)

pub AreCellsOf-again : (m : Core) (cs : List Cell) → AreCellsOf m cs → AllFit (after_exchange m cs).storage.fetch_protection (cells_after_exchange m cs) → AreCellsOf (after_exchange m cs) (cells_after_exchange m cs)
AreCellsOf-again m cs h f = AreCellsOf-cells_after_exchange m (after_exchange m cs) cs (λ p i. IsPlaceOf-after_exchange m cs p i) h f

-- whether fetches are protected stays
pub fetch_protection-after_exchange : (m : Core) (cs : List Cell) → (after_exchange m cs).storage.fetch_protection ≡ m.storage.fetch_protection
fetch_protection-after_exchange m [] = refl
fetch_protection-after_exchange m (c ∷ cs) = fetch_protection-after_exchange (with_value m c.place c.value) cs ∙ fetch_protection-kept m c.place c.value

-- what fits in either case fits where fetches are protected
Fits-any : (b : Bool) (p : Place) (v : ℕ) → Fits b p v → Fits true p v
Fits-any true p v h = h
Fits-any false Psw v h = h
Fits-any false (Register n) v h = h
Fits-any false (Byte a) v h = h
Fits-any false (Key k) v h = omega (arith, h)
Fits-any false p v h = absurd h

pub AllFit-any : (b : Bool) (cs : List Cell) → AllFit b cs → AllFit true cs
AllFit-any b [] h = tt
AllFit-any b (c ∷ cs) h = (Fits-any b c.place c.value h.0, AllFit-any b cs h.1)

-- what follows where the condition of an exchange holds
pub ruleset exchanges = (after_exchange-twice, cells_after_exchange-twice, AreCellsOf-again)

-- an exchange keeps the places
pub places_of_cells-cells_after_exchange : (m : Core) (cs : List Cell) → places_of_cells (cells_after_exchange m cs) ≡ places_of_cells cs
places_of_cells-cells_after_exchange m [] = refl
places_of_cells-cells_after_exchange m (c ∷ cs) = ap (λ ps. c.place ∷ ps) (places_of_cells-cells_after_exchange (with_value m c.place c.value) cs)

-- cells of a core fit
pub AllFit-from : (m : Core) (cs : List Cell) → AreCellsOf m cs → AllFit m.storage.fetch_protection cs
AllFit-from m [] h = tt
AllFit-from m (c ∷ cs) h = (h.1, AllFit-from m cs h.3)
