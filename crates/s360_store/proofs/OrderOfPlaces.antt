-- The derived order of places is the one by kind and number.
use Rattle.std.proofs.Common.{◌≡◌, ◌≢◌, ◌<◌, true, false, refl, ap, sym, inl, inr, subst, arith, Ordering, Less, Equal, Greater}
use Rattle.std.proofs.lemmas.Cmp.{ranked}
use Rattle.std.specs.Ordering.{is_eq, nat_cmp, MatchOrdering}
use Rattle.std.specs.declared.cmp.Ord
use denote.Param
use Rattle.s360_store.specs.contracts.place.PlaceOrd.TheImpl
use Rattle.s360_store.specs.declared.place.Place.{Place}
use Rattle.s360_store.specs.declared.place.Place.TheVariants.{Psw, Register, Byte, Key, Run, External, UnitState, UnitMedia}
use Rattle.s360_store.specs.Order.{kind_of, number_of, IsBefore}

-- the derived order
abbrev pub compare : Place → Place → Ordering
compare = Param.read Ord.Ghosts.cmp TheImpl.ghosts

-- within a kind, the order of the numbers is that of the places
by_number : (p q : Place) → kind_of p ≡ kind_of q → (number_of p ≡ number_of q → p ≡ q)
    → MatchOrdering (nat_cmp (number_of p) (number_of q)) (IsBefore p q) (p ≡ q) (IsBefore q p)
by_number p q kinds same =
    let by : (r : Ordering) → MatchOrdering r (number_of p < number_of q) (number_of p ≡ number_of q) (number_of q < number_of p)
    → MatchOrdering r (IsBefore p q) (p ≡ q) (IsBefore q p)
    = λ r. elim r as (λ s. MatchOrdering s (number_of p < number_of q) (number_of p ≡ number_of q) (number_of q < number_of p)
    → MatchOrdering s (IsBefore p q) (p ≡ q) (IsBefore q p))
    [ Less ↦ λ h. inr (kinds, h) | Equal ↦ λ h. same h | Greater ↦ λ h. inr (sym kinds, h) ]
    in by (nat_cmp (number_of p) (number_of q)) (ranked (number_of p) (number_of q) (nat_cmp (number_of p) (number_of q)) refl)

pub compare_is : (p q : Place) → MatchOrdering (compare p q) (IsBefore p q) (p ≡ q) (IsBefore q p)
compare_is Psw Psw = refl
compare_is (Register n) (Register k) = by_number (Register n) (Register k) refl (λ e. ap (λ i. Register i) e)
compare_is (Byte n) (Byte k) = by_number (Byte n) (Byte k) refl (λ e. ap (λ i. Byte i) e)
compare_is (Key n) (Key k) = by_number (Key n) (Key k) refl (λ e. ap (λ i. Key i) e)
compare_is Run Run = refl
compare_is External External = refl
compare_is (UnitState u) (UnitState v) = by_number (UnitState u) (UnitState v) refl (λ e. ap (λ i. UnitState (record { 0 = i })) e)
compare_is (UnitMedia u) (UnitMedia v) = by_number (UnitMedia u) (UnitMedia v) refl (λ e. ap (λ i. UnitMedia (record { 0 = i })) e)
compare_is p q = inl (omega arith)

pub compare-true : (p q : Place) → is_eq (compare p q) ≡ true → p ≡ q
compare-true p q h =
    let by : (r : Ordering) → MatchOrdering r (IsBefore p q) (p ≡ q) (IsBefore q p) → is_eq r ≡ true → p ≡ q
    = λ r. elim r as (λ s. MatchOrdering s (IsBefore p q) (p ≡ q) (IsBefore q p) → is_eq s ≡ true → p ≡ q)
    [ Less ↦ λ m e. absurd (cc) | Equal ↦ λ m e. m | Greater ↦ λ m e. absurd (cc) ]
    in by (compare p q) (compare_is p q) h

pub IsBefore-irreflexive : (p : Place) → IsBefore p p → ⊥
IsBefore-irreflexive p (inl h) = omega arith
IsBefore-irreflexive p (inr h) = omega arith

compare-self : (p : Place) → is_eq (compare p p) ≡ true
compare-self p =
    let by : (r : Ordering) → MatchOrdering r (IsBefore p p) (p ≡ p) (IsBefore p p) → is_eq r ≡ true
    = λ r. elim r as (λ s. MatchOrdering s (IsBefore p p) (p ≡ p) (IsBefore p p) → is_eq s ≡ true)
    [ Less ↦ λ m. absurd (IsBefore-irreflexive p m) | Equal ↦ λ m. refl | Greater ↦ λ m. absurd (IsBefore-irreflexive p m) ]
    in by (compare p p) (compare_is p p)

pub compare-false : (p q : Place) → is_eq (compare p q) ≡ false → p ≢ q
compare-false p q h e =
    let same : is_eq (compare p q) ≡ true = subst (λ (r : Place). is_eq (compare p r) ≡ true) e (compare-self p) in cc
