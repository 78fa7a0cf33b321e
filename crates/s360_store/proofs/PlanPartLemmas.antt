-- Puts one after another, the entries of a plan's map, and cells that ascend.
use Rattle.std.proofs.Common.{◌≡◌, ◌<◌, ◌≤◌, ◌++◌, ◌⊎◌, IsSome, ℕ, Some, List, [], ◌∷◌, Bool, true, false, cond, refl, ap, sym, subst, length, Ordering, Less, Equal, Greater}
use Rattle.std.specs.Map.{lookup}
use Rattle.std.specs.declared.cmp.PartialEq
use Rattle.indexmap.specs.IndexMap.{insert_entry}
use denote.Param
use Rattle.s360_store.specs.contracts.place.PlacePartialEq.TheImpl
use Rattle.s360_store.specs.declared.place.Place.{Place}
use Rattle.s360_store.specs.declared.place.Place.TheVariants.{Psw, Register, Byte, Key, Run, External, UnitState, UnitMedia}
use Rattle.s360_store.specs.declared.place.Cell.{Cell}
use Rattle.s360_store.specs.Places.{same_place}
use Rattle.s360_store.specs.Cells.{IsFresh, HasEachOnce, places_of_cells}
use Rattle.s360_store.specs.Plans.{after_put, planned_value}
use Rattle.s360_store.specs.Order.{IsAscending, IsBefore, IsBeforeAll}
use Rattle.s360_store.specs.PlanParts.{IsPlan, cells_of_entries}
use Rattle.s360_store.proofs.OrderOfPlaces.{compare, compare_is}
use Rattle.s360_store.proofs.AscendingLemmas.{IsBefore-trans}
use Rattle.std.specs.Ordering.{is_lt, MatchOrdering}
use Rattle.s360_store.proofs.PlanLemmas.{same_place-false, same_place-sym, HasEachOnce-after_put, length-after_put-le}

-- a put at any other place is a put to what follows
pub after_put-behind : (cs rest : List Cell) (p : Place) (v : ℕ) → IsFresh p cs → after_put (cs ++ rest) p v ≡ cs ++ after_put rest p v
after_put-behind [] rest p v h = refl
after_put-behind (c ∷ cs) rest p v h =
    rw (same_place-false c.place p (λ e. h.0 (sym e))) (ap (λ l. c ∷ l) (after_put-behind cs rest p v h.1))

-- the equality by which the map tells its keys apart
abbrev pub equal : Place → Place → Bool
equal = Param.read PartialEq.Ghosts.eq TheImpl.ghosts

-- which is the test of the places
pub equal_is : (p q : Place) → equal p q ≡ same_place p q
equal_is Psw Psw = refl
equal_is (Register n) (Register k) = refl
equal_is (Byte n) (Byte k) = refl
equal_is (Key n) (Key k) = refl
equal_is Run Run = refl
equal_is External External = refl
equal_is (UnitState u) (UnitState v) = refl
equal_is (UnitMedia u) (UnitMedia v) = refl
equal_is p q = refl

-- an insertion into the map is a put to its cells
pub cells_of_entries-insert_entry : (es : List (Place × ℕ)) (p : Place) (v : ℕ) → cells_of_entries (insert_entry equal es p v) ≡ after_put (cells_of_entries es) p v
cells_of_entries-insert_entry [] p v = refl
cells_of_entries-insert_entry (e ∷ es) p v =
    let here : Cell = record { place = e.0; value = v }
    in let kept : Cell = record { place = e.0; value = e.1 }
    in let by : (b : Bool) → cells_of_entries (cond b ((e.0, v) ∷ es) (e ∷ insert_entry equal es p v)) ≡ cond b (here ∷ cells_of_entries es) (kept ∷ after_put (cells_of_entries es) p v)
    = λ b. elim b as (λ x. cells_of_entries (cond x ((e.0, v) ∷ es) (e ∷ insert_entry equal es p v)) ≡ cond x (here ∷ cells_of_entries es) (kept ∷ after_put (cells_of_entries es) p v))
    [ true ↦ refl | false ↦ ap (λ l. kept ∷ l) (cells_of_entries-insert_entry es p v) ]
    in rw (equal_is p e.0, same_place-sym p e.0) (by (same_place e.0 p))

-- a look-up in the map is one among its cells
pub lookup-cells_of_entries : (es : List (Place × ℕ)) (p : Place) → lookup (equal p) es ≡ planned_value (cells_of_entries es) p
lookup-cells_of_entries [] p = refl
lookup-cells_of_entries (e ∷ es) p =
    rw (equal_is p e.0, same_place-sym p e.0) (ap (λ r. cond (same_place e.0 p) (Some e.1) r) (lookup-cells_of_entries es p))

-- a put at a place that there is not is a cell more
pub after_put-fresh : (cs : List Cell) (p : Place) (v : ℕ) → IsFresh p cs → after_put cs p v ≡ cs ++ record { place = p; value = v } ∷ []
after_put-fresh [] p v h = refl
after_put-fresh (c ∷ cs) p v h = rw (same_place-false c.place p (λ e. h.0 (sym e))) (ap (λ l. c ∷ l) (after_put-fresh cs p v h.1))

-- the place comes after the last of the cells
abbrev pub EndsBefore : List Cell → Place → Type 0
EndsBefore [] p = Unit {0}
EndsBefore (c ∷ []) p = IsBefore c.place p
EndsBefore (c ∷ (d ∷ cs)) p = EndsBefore (d ∷ cs) p

before_through : (p q : Place) (c : Cell) (cs : List Cell) → IsBeforeAll p (places_of_cells (c ∷ cs)) → EndsBefore (c ∷ cs) q → IsBefore p q
before_through p q c [] h e = IsBefore-trans p c.place q h.0 e
before_through p q c (d ∷ cs) h e = before_through p q d cs h.1 e

IsBeforeAll-push : (p : Place) (cs : List Cell) (x : Cell) → IsBeforeAll p (places_of_cells cs) → IsBefore p x.place → IsBeforeAll p (places_of_cells (cs ++ x ∷ []))
IsBeforeAll-push p [] x h b = (b, tt)
IsBeforeAll-push p (c ∷ cs) x h b = (h.0, IsBeforeAll-push p cs x h.1 b)

pub IsAscending-push : (cs : List Cell) (x : Cell) → IsAscending (places_of_cells cs) → EndsBefore cs x.place → IsAscending (places_of_cells (cs ++ x ∷ []))
IsAscending-push [] x a e = (tt, tt)
IsAscending-push (c ∷ []) x a e = ((e, tt), (tt, tt))
IsAscending-push (c ∷ (d ∷ cs)) x a e =
    (IsBeforeAll-push c.place (d ∷ cs) x a.0 (before_through c.place x.place d cs a.0 e), IsAscending-push (d ∷ cs) x a.1 e)

-- a place that comes first by the derived order
pub IsBefore-lt : (p q : Place) → is_lt (compare p q) ≡ true → IsBefore p q
IsBefore-lt p q h =
    let by : (r : Ordering) → MatchOrdering r (IsBefore p q) (p ≡ q) (IsBefore q p) → is_lt r ≡ true → IsBefore p q
    = λ r. elim r as (λ s. MatchOrdering s (IsBefore p q) (p ≡ q) (IsBefore q p) → is_lt s ≡ true → IsBefore p q)
    [ Less ↦ λ m e. m | Equal ↦ λ m e. absurd (cc) | Greater ↦ λ m e. absurd (cc) ]
    in by (compare p q) (compare_is p q) h

-- a put leaves a plan
pub IsPlan-after_put : (cs ds : List Cell) (p : Place) (v : ℕ) → IsPlan cs → IsSome (planned_value cs p) ⊎ (length cs < 1000000) → ds ≡ after_put cs p v → IsPlan ds
IsPlan-after_put cs ds p v h room e = record {
  once = subst (λ l. HasEachOnce l) (sym e) (HasEachOnce-after_put cs p v h.once);
  few = subst (λ (l : List Cell). length l ≤ 1000000) (sym e) (length-after_put-le cs p v 1000000 room h.few);
}
