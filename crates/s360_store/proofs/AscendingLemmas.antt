-- Ascending lists of places.
use Rattle.std.proofs.Common.{◌≡◌, ◌≢◌, ◌<◌, ◌≤◌, ◌+◌, ◌++◌, ℕ, List, [], ◌∷◌, refl, ap, sym, ◌∙◌, ◌⊎◌, inl, inr, arith, map, Bool, true, false, cond, suc, zero}
use Rattle.std.specs.List.{filter, range_with_len}
use Rattle.std.proofs.lemmas.Bool.Decides.{eqb_tells}
use Rattle.s360_store.specs.declared.place.Place.{Place}
use Rattle.s360_store.specs.Order.{kind_of, number_of, IsBefore, IsBeforeAll, IsAscending}
use Rattle.s360_store.proofs.OrderOfPlaces.{IsBefore-irreflexive}

-- the place is one of the list's
abbrev pub Among : Place → List Place → Type 0
Among p [] = ⊥
Among p (q ∷ qs) = (p ≡ q) ⊎ Among p qs

pub IsBefore-trans : (p q r : Place) → IsBefore p q → IsBefore q r → IsBefore p r
IsBefore-trans p q r (inl a) (inl b) = inl (omega arith)
IsBefore-trans p q r (inl a) (inr b) = inl (omega arith)
IsBefore-trans p q r (inr a) (inl b) = inl (omega arith)
IsBefore-trans p q r (inr a) (inr b) = inr (omega arith, omega arith)

IsBeforeAll-among : (p q : Place) (qs : List Place) → IsBeforeAll p qs → Among q qs → IsBefore p q
IsBeforeAll-among p q (r ∷ qs) h (inl e) = rw e h.0
IsBeforeAll-among p q (r ∷ qs) h (inr a) = IsBeforeAll-among p q qs h.1 a
IsBeforeAll-among p q [] h a = absurd a

-- ascending lists with the same places are equal
pub same_ascending : (ps qs : List Place) → IsAscending ps → IsAscending qs
    → ((r : Place) → Among r ps → Among r qs) → ((r : Place) → Among r qs → Among r ps) → ps ≡ qs
same_ascending [] [] a b f g = refl
same_ascending [] (q ∷ qs) a b f g = absurd (g q (inl refl))
same_ascending (p ∷ ps) [] a b f g = absurd (f p (inl refl))
same_ascending (p ∷ ps) (q ∷ qs) a b f g =
    let first : (p ≡ q) ⊎ Among p qs → (q ≡ p) ⊎ Among q ps → p ≡ q
    = λ u v. elim u [
      | inl e ↦ e
      | inr x ↦ elim v [
        | inl e ↦ sym e
        | inr y ↦ absurd (IsBefore-irreflexive p (IsBefore-trans p q p (IsBeforeAll-among p q ps a.0 y) (IsBeforeAll-among q p qs b.0 x)))
      ]
    ]
    in let e : p ≡ q = first (f p (inl refl)) (g q (inl refl))
    in let down : (r : Place) → Among r ps → Among r qs
    = λ r x. elim (f r (inr x)) [ inl s ↦ absurd (IsBefore-irreflexive p (let w : r ≡ p = s ∙ sym e in rw w at (IsBeforeAll-among p r ps a.0 x))) | inr y ↦ y ]
    in let up : (r : Place) → Among r qs → Among r ps
    = λ r x. elim (g r (inr x)) [ inl s ↦ absurd (IsBefore-irreflexive q (let w : r ≡ q = s ∙ e in rw w at (IsBeforeAll-among q r qs b.0 x))) | inr y ↦ y ]
    in ap (λ x. x ∷ ps) e ∙ ap (λ l. q ∷ l) (same_ascending ps qs a.1 b.1 down up)

-- a filter keeps the order and what passes
pub IsBeforeAll-filter : (f : Place → Bool) (p : Place) (qs : List Place) → IsBeforeAll p qs → IsBeforeAll p (filter f qs)
IsBeforeAll-filter f p [] h = tt
IsBeforeAll-filter f p (q ∷ qs) h =
    let by : (b : Bool) → IsBeforeAll p (cond b (q ∷ filter f qs) (filter f qs))
    = λ b. elim b as (λ x. IsBeforeAll p (cond x (q ∷ filter f qs) (filter f qs))) [ true ↦ (h.0, IsBeforeAll-filter f p qs h.1) | false ↦ IsBeforeAll-filter f p qs h.1 ]
    in by (f q)

pub IsAscending-filter : (f : Place → Bool) (ps : List Place) → IsAscending ps → IsAscending (filter f ps)
IsAscending-filter f [] h = tt
IsAscending-filter f (p ∷ ps) h =
    let by : (b : Bool) → IsAscending (cond b (p ∷ filter f ps) (filter f ps))
    = λ b. elim b as (λ x. IsAscending (cond x (p ∷ filter f ps) (filter f ps))) [ true ↦ (IsBeforeAll-filter f p ps h.0, IsAscending-filter f ps h.1) | false ↦ IsAscending-filter f ps h.1 ]
    in by (f p)

pub Among-filter : (f : Place → Bool) (r : Place) (ps : List Place) → Among r (filter f ps) → Among r ps × (f r ≡ true)
Among-filter f r [] a = absurd a
Among-filter f r (p ∷ ps) a =
    let by : (b : Bool) → f p ≡ b → Among r (cond b (p ∷ filter f ps) (filter f ps)) → ((r ≡ p) ⊎ Among r ps) × (f r ≡ true)
    = λ b. elim b as (λ x. f p ≡ x → Among r (cond x (p ∷ filter f ps) (filter f ps)) → ((r ≡ p) ⊎ Among r ps) × (f r ≡ true)) [
      | true ↦ λ e y. elim y [ inl s ↦ (inl s, ap f s ∙ e) | inr z ↦ let w : Among r ps × (f r ≡ true) = Among-filter f r ps z in (inr w.0, w.1) ]
      | false ↦ λ e y. let w : Among r ps × (f r ≡ true) = Among-filter f r ps y in (inr w.0, w.1)
    ]
    in by (f p) refl a

pub Among-filtered : (f : Place → Bool) (r : Place) (ps : List Place) → Among r ps → f r ≡ true → Among r (filter f ps)
Among-filtered f r [] a t = absurd a
Among-filtered f r (p ∷ ps) (inl s) t =
    let e : f p ≡ true = ap f (sym s) ∙ t in rw e (inl s)
Among-filtered f r (p ∷ ps) (inr z) t =
    let by : (b : Bool) → Among r (cond b (p ∷ filter f ps) (filter f ps))
    = λ b. elim b as (λ x. Among r (cond x (p ∷ filter f ps) (filter f ps))) [ true ↦ inr (Among-filtered f r ps z t) | false ↦ Among-filtered f r ps z t ]
    in by (f p)

-- joined lists
pub IsBeforeAll-append : (p : Place) (qs rs : List Place) → IsBeforeAll p qs → IsBeforeAll p rs → IsBeforeAll p (qs ++ rs)
IsBeforeAll-append p [] rs h k = k
IsBeforeAll-append p (q ∷ qs) rs h k = (h.0, IsBeforeAll-append p qs rs h.1 k)

pub IsAscending-append : (ps qs : List Place) → IsAscending ps → IsAscending qs → ((p : Place) → Among p ps → IsBeforeAll p qs) → IsAscending (ps ++ qs)
IsAscending-append [] qs a b h = b
IsAscending-append (p ∷ ps) qs a b h = (IsBeforeAll-append p ps qs a.0 (h p (inl refl)), IsAscending-append ps qs a.1 b (λ q x. h q (inr x)))

pub Among-append_left : (r : Place) (ps qs : List Place) → Among r ps → Among r (ps ++ qs)
Among-append_left r [] qs a = absurd a
Among-append_left r (p ∷ ps) qs (inl e) = inl e
Among-append_left r (p ∷ ps) qs (inr x) = inr (Among-append_left r ps qs x)

pub Among-append_right : (r : Place) (ps qs : List Place) → Among r qs → Among r (ps ++ qs)
Among-append_right r [] qs a = a
Among-append_right r (p ∷ ps) qs a = inr (Among-append_right r ps qs a)

-- the places of one kind
pub record IsKind (f : ℕ → Place) (k : ℕ) : Type 0 where
  pub kind : (n : ℕ) → kind_of (f n) ≡ k
  pub number : (n : ℕ) → number_of (f n) ≡ n

IsBeforeAll-range : (f : ℕ → Place) (k : ℕ) (i : IsKind f k) (p : Place) (start count : ℕ) → kind_of p ≡ k → number_of p < start → IsBeforeAll p (map f (range_with_len start count))
IsBeforeAll-range f k i p start zero e l = tt
IsBeforeAll-range f k i p start (suc count) e l =
    (inr (e ∙ sym (i.kind start), (let w : number_of (f start) ≡ start = i.number start in omega arith)), IsBeforeAll-range f k i p (start + 1) count e (omega arith))

pub IsAscending-range : (f : ℕ → Place) (k : ℕ) (i : IsKind f k) (start count : ℕ) → IsAscending (map f (range_with_len start count))
IsAscending-range f k i start zero = tt
IsAscending-range f k i start (suc count) =
    (IsBeforeAll-range f k i (f start) (start + 1) count (i.kind start) (let w : number_of (f start) ≡ start = i.number start in omega arith), IsAscending-range f k i (start + 1) count)

pub IsBeforeAll-kind : (f : ℕ → Place) (k : ℕ) (i : IsKind f k) (p : Place) (start count : ℕ) → kind_of p < k → IsBeforeAll p (map f (range_with_len start count))
IsBeforeAll-kind f k i p start zero l = tt
IsBeforeAll-kind f k i p start (suc count) l = (inl (let w : kind_of (f start) ≡ k = i.kind start in omega arith), IsBeforeAll-kind f k i p (start + 1) count l)

pub Among-range : (f : ℕ → Place) (r : Place) (start count : ℕ) → Among r (map f (range_with_len start count)) → (n : ℕ) × (r ≡ f n) × (start ≤ n) × (n < start + count)
Among-range f r start zero a = absurd a
Among-range f r start (suc count) (inl e) = (start, e, omega arith, omega arith)
Among-range f r start (suc count) (inr x) = let w : (n : ℕ) × (r ≡ f n) × (start + 1 ≤ n) × (n < start + 1 + count) = Among-range f r (start + 1) count x in (w.0, w.1, omega arith, omega arith)

pub range-Among : (f : ℕ → Place) (n start count : ℕ) → start ≤ n → n < start + count → Among (f n) (map f (range_with_len start count))
range-Among f n start zero l h = absurd (omega arith)
range-Among f n start (suc count) l h =
    elim (eqb_tells n start) [ inl e ↦ inl (ap f e.1) | inr e ↦ inr (range-Among f n (start + 1) count (let w : n ≢ start = e.1 in omega arith) (omega arith)) ]
