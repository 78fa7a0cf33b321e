-- The numbers of each place.
use denote.Param.Members.{Mut, Called}
use Rattle.std.proofs.Common.{◌≡◌, ◌≢◌, ◌<◌, ◌≤◌, ◌+◌, ◌||◌, ℕ, zero, suc, Bool, true, false, cond, eqb, eqb-true, List, [], ◌∷◌, length, get_or, set, Option, Some, None, Vec, refl, ap, sym, subst, inl, inr, ◌∙◌, map, arith, option_map, Ordering, Less, Equal, Greater}
use Rattle.std.proofs.Math.ListN.{get_or-map}
use Rattle.std.proofs.lemmas.Bool.Decides.{eqb_tells}
use Rattle.std.proofs.lemmas.List.FromFn.{length-range_with_len}
use Rattle.std.proofs.lemmas.Option.{get_or_from_slice_get, slice_get-get_or, slice_get-map, slice_get_past, slice_get_within}
use Rattle.std.specs.Array.{IsFromFnResultFrom}
use Rattle.std.specs.List.{AllZip, range_with_len, slice_get}
use Rattle.std.specs.Ordering.{is_eq, match_ordering}
use Rattle.std.specs.BTreeMap.{insert_entry, is_at}
use Rattle.std.specs.Map.{lookup, set_value}
use Rattle.s360_index.proofs.SegmentLemmas.{slice_get-set_at, slice_get-set_other}
use Rattle.s360_store.specs.declared.place.Place.{Place}
use Rattle.s360_store.specs.declared.place.Place.TheVariants.{Psw, Register, Byte}
use Rattle.s360_store.specs.Items.{is_in_run}
use Rattle.s360_store.specs.Places.{is_among, same_place}
use Rattle.s360_store.specs.Spans.{byte_places, places_of_span}
use Rattle.s360_store.specs.declared.span.Span.{Span}
use Rattle.s360_store.proofs.ItemLemmas.{has-run}
use Rattle.s360_store.proofs.SpanLemmas.{places-of-bytes}
use Rattle.s360_store.proofs.OrderOfPlaces.{compare, compare-true, compare-false}
use Rattle.s360_store.proofs.PlanLemmas.{same_place-true, same_place-refl, same_place-false}
use Rattle.s360_index.specs.Histories.{Gains, GainsInPart, Histories, Loses, numbers, numbers_among, numbers_or}
use Rattle.s360_index.specs.Numbers.{MayGain, MayLose, with_number, without_number}
use Rattle.s360_index.specs.Segments.{AreSegments, Gained, GainedInPart, KeepsNumbers, Lost, is_between, numbers_at, numbers_of_segment}
use Rattle.s360_index.specs.Views.{byte_numbers}
use Rattle.s360_index.specs.declared.segments.Segments.{Segments}

-- two places compare as equal where they are one
is_eq-same_place : (p q : Place) → is_eq (compare p q) ≡ same_place q p
is_eq-same_place p q =
    let by : (b : Bool) → is_eq (compare p q) ≡ b → b ≡ same_place q p
    = λ b. elim b as (λ x. is_eq (compare p q) ≡ x → x ≡ same_place q p) [
      | true ↦ λ e. let one : p ≡ q = compare-true p q e in rw one (sym (same_place-refl q))
      | false ↦ λ e. sym (same_place-false q p (λ s. compare-false p q e (sym s)))
    ]
    in by (is_eq (compare p q)) refl

-- the entries of a map, as its view has them
abbrev pub shown : {A : Type 0} → List (Place × Vec ℕ A) → List (Place × List ℕ)
shown es = map (λ e. (e.0, e.1.items)) es

-- the numbers that are there, or none
abbrev pub items_of : {A : Type 0} → Option (Vec ℕ A) → List ℕ
items_of None = []
items_of (Some v) = v.items

-- what a look-up finds
pub numbers_among-lookup : {A : Type 0} (es : List (Place × Vec ℕ A)) (p : Place) → numbers_among (shown es) p ≡ items_of (lookup (is_at (compare p)) es)
numbers_among-lookup [] p = refl
numbers_among-lookup {A} (e ∷ es) p =
    let found : Option (Vec ℕ A) = lookup (is_at (compare p)) es
    in let by : (b : Bool) → cond b e.1.items (items_of found) ≡ items_of (cond b (Some e.1) found)
    = λ b. elim b as (λ x. cond x e.1.items (items_of found) ≡ items_of (cond x (Some e.1) found)) [ true ↦ refl | false ↦ refl ]
    in ap (λ ns. cond (same_place e.0 p) e.1.items ns) (numbers_among-lookup es p) ∙ by (same_place e.0 p)
    ∙ ap (λ b. items_of (cond b (Some e.1) found)) (sym (is_eq-same_place p e.0))

-- a value at a place that stands first, and one before others of another place
first : (k e p : Place) (v x : List ℕ) (rest : List ℕ) → k ≡ e → cond (same_place e p) v rest ≡ cond (same_place k p) v (cond (same_place e p) x rest)
first k e p v x rest one =
    let by : (b : Bool) → cond b v rest ≡ cond b v (cond b x rest)
    = λ b. elim b as (λ y. cond y v rest ≡ cond y v (cond y x rest)) [ true ↦ refl | false ↦ refl ]
    in rw one (by (same_place e p))

later : (k e p : Place) (v x : List ℕ) (rest : List ℕ) → k ≢ e → cond (same_place e p) x (cond (same_place k p) v rest) ≡ cond (same_place k p) v (cond (same_place e p) x rest)
later k e p v x rest other =
    let by : (b c : Bool) → same_place e p ≡ b → same_place k p ≡ c → cond b x (cond c v rest) ≡ cond c v (cond b x rest)
    = λ b. elim b as (λ y. (c : Bool) → same_place e p ≡ y → same_place k p ≡ c → cond y x (cond c v rest) ≡ cond c v (cond y x rest)) [
      | true ↦ λ c. elim c as (λ z. same_place e p ≡ true → same_place k p ≡ z → cond true x (cond z v rest) ≡ cond z v (cond true x rest)) [
        | true ↦ λ g h. absurd (other (same_place-true k p h ∙ sym (same_place-true e p g)))
        | false ↦ λ g h. refl
      ]
      | false ↦ λ c g h. refl
    ]
    in by (same_place e p) (same_place k p) refl refl

-- what is written at a place, that is there already
pub numbers_among-set_value : {A : Type 0} (es : List (Place × Vec ℕ A)) (k : Place) (old new : Vec ℕ A) (p : Place) → Some old ≡ lookup (is_at (compare k)) es
    → numbers_among (shown (set_value (is_at (compare k)) es new)) p ≡ cond (same_place k p) new.items (numbers_among (shown es) p)
numbers_among-set_value [] k old new p h = absurd (cc)
numbers_among-set_value {A} (e ∷ es) k old new p h =
    let by : (b : Bool) → is_eq (compare k e.0) ≡ b → Some old ≡ cond b (Some e.1) (lookup (is_at (compare k)) es)
    → numbers_among (shown (cond b ((e.0, new) ∷ es) (e ∷ set_value (is_at (compare k)) es new))) p ≡ cond (same_place k p) new.items (numbers_among (shown (e ∷ es)) p)
    = λ b. elim b as (λ x. is_eq (compare k e.0) ≡ x → Some old ≡ cond x (Some e.1) (lookup (is_at (compare k)) es)
    → numbers_among (shown (cond x ((e.0, new) ∷ es) (e ∷ set_value (is_at (compare k)) es new))) p ≡ cond (same_place k p) new.items (numbers_among (shown (e ∷ es)) p)) [
      | true ↦ λ s g. first k e.0 p new.items e.1.items (numbers_among (shown es) p) (compare-true k e.0 s)
      | false ↦ λ s g. ap (λ ns. cond (same_place e.0 p) e.1.items ns) (numbers_among-set_value es k old new p g)
          ∙ later k e.0 p new.items e.1.items (numbers_among (shown es) p) (compare-false k e.0 s)
    ]
    in by (is_eq (compare k e.0)) refl h

-- and what is put at a place
pub numbers_among-insert : {A : Type 0} (es : List (Place × Vec ℕ A)) (k : Place) (new : Vec ℕ A) (p : Place)
    → numbers_among (shown (insert_entry compare es k new)) p ≡ cond (same_place k p) new.items (numbers_among (shown es) p)
numbers_among-insert [] k new p = refl
numbers_among-insert {A} (e ∷ es) k new p =
    let by : (r : Ordering) → compare k e.0 ≡ r
    → numbers_among (shown (match_ordering r ((k, new) ∷ e ∷ es) ((e.0, new) ∷ es) (e ∷ insert_entry compare es k new))) p ≡ cond (same_place k p) new.items (numbers_among (shown (e ∷ es)) p)
    = λ r. elim r as (λ x. compare k e.0 ≡ x
    → numbers_among (shown (match_ordering x ((k, new) ∷ e ∷ es) ((e.0, new) ∷ es) (e ∷ insert_entry compare es k new))) p ≡ cond (same_place k p) new.items (numbers_among (shown (e ∷ es)) p)) [
      | Less ↦ λ s. refl
      | Equal ↦ λ s. first k e.0 p new.items e.1.items (numbers_among (shown es) p) (compare-true k e.0 (ap (λ o. is_eq o) s))
      | Greater ↦ λ s. ap (λ ns. cond (same_place e.0 p) e.1.items ns) (numbers_among-insert es k new p)
          ∙ later k e.0 p new.items e.1.items (numbers_among (shown es) p) (compare-false k e.0 (ap (λ o. is_eq o) s))
    ]
    in by (compare k e.0) refl

-- the numbers of one place are others: by a function of them
changed_at : (f : List ℕ → List ℕ) (old new : Place → List ℕ) (k : Place) (ns : List ℕ) → ((p : Place) → new p ≡ cond (same_place k p) ns (old p)) → ns ≡ f (old k)
    → (p : Place) → new p ≡ cond (same_place k p) (f (old p)) (old p)
changed_at f old new k ns h e p =
    let by : (b : Bool) → same_place k p ≡ b → cond b ns (old p) ≡ cond b (f (old p)) (old p)
    = λ b. elim b as (λ x. same_place k p ≡ x → cond x ns (old p) ≡ cond x (f (old p)) (old p)) [
      | true ↦ λ s. e ∙ ap (λ q. f (old q)) (same_place-true k p s)
      | false ↦ λ s. refl
    ]
    in h p ∙ by (same_place k p) refl

-- or as they were
kept_at : (old new : Place → List ℕ) (k : Place) (ns : List ℕ) → ((p : Place) → new p ≡ cond (same_place k p) ns (old p)) → ns ≡ old k → (p : Place) → new p ≡ old p
kept_at old new k ns h e p =
    let by : (b : Bool) → same_place k p ≡ b → cond b ns (old p) ≡ old p
    = λ b. elim b as (λ x. same_place k p ≡ x → cond x ns (old p) ≡ old p) [
      | true ↦ λ s. e ∙ ap old (same_place-true k p s)
      | false ↦ λ s. refl
    ]
    in h p ∙ by (same_place k p) refl

-- a list in a map was changed
pub changed-written : {A : Type 0} (f : List ℕ → List ℕ) (es fs : List (Place × Vec ℕ A)) (k : Place) (old new : Vec ℕ A) → fs ≡ set_value (is_at (compare k)) es new
    → Some old ≡ lookup (is_at (compare k)) es → new.items ≡ f old.items
    → (p : Place) → numbers_among (shown fs) p ≡ cond (same_place k p) (f (numbers_among (shown es) p)) (numbers_among (shown es) p)
changed-written f es fs k old new written found changed =
    changed_at f (numbers_among (shown es)) (numbers_among (shown fs)) k new.items
    (λ p. ap (λ gs. numbers_among (shown gs) p) written ∙ numbers_among-set_value es k old new p found)
    (changed ∙ ap f (ap items_of found ∙ sym (numbers_among-lookup es k)))

pub kept-written : {A : Type 0} (es fs : List (Place × Vec ℕ A)) (k : Place) (old new : Vec ℕ A) → fs ≡ set_value (is_at (compare k)) es new
    → Some old ≡ lookup (is_at (compare k)) es → new.items ≡ old.items
    → (p : Place) → numbers_among (shown fs) p ≡ numbers_among (shown es) p
kept-written es fs k old new written found kept =
    kept_at (numbers_among (shown es)) (numbers_among (shown fs)) k new.items
    (λ p. ap (λ gs. numbers_among (shown gs) p) written ∙ numbers_among-set_value es k old new p found)
    (kept ∙ ap items_of found ∙ sym (numbers_among-lookup es k))

-- a list was put into it
pub changed-inserted : {A : Type 0} (f : List ℕ → List ℕ) (es fs : List (Place × Vec ℕ A)) (k : Place) (new : Vec ℕ A) → fs ≡ insert_entry compare es k new
    → None ≡ lookup (is_at (compare k)) es → new.items ≡ f []
    → (p : Place) → numbers_among (shown fs) p ≡ cond (same_place k p) (f (numbers_among (shown es) p)) (numbers_among (shown es) p)
changed-inserted f es fs k new put none changed =
    changed_at f (numbers_among (shown es)) (numbers_among (shown fs)) k new.items
    (λ p. ap (λ gs. numbers_among (shown gs) p) put ∙ numbers_among-insert es k new p)
    (changed ∙ ap f (ap items_of none ∙ sym (numbers_among-lookup es k)))

-- there was none to change
pub changed-none : {A : Type 0} (f : List ℕ → List ℕ) (es fs : List (Place × Vec ℕ A)) (k : Place) → fs ≡ es
    → None ≡ lookup (is_at (compare k)) es → [] ≡ f []
    → (p : Place) → numbers_among (shown fs) p ≡ cond (same_place k p) (f (numbers_among (shown es) p)) (numbers_among (shown es) p)
changed-none f es fs k same none changed =
    changed_at f (numbers_among (shown es)) (numbers_among (shown fs)) k (numbers_among (shown es) k)
    (λ p. ap (λ gs. numbers_among (shown gs) p) same ∙ sym (kept_at (numbers_among (shown es)) (λ q. cond (same_place k q) (numbers_among (shown es) k) (numbers_among (shown es) q)) k (numbers_among (shown es) k) (λ q. refl) refl p))
    (let none_there : [] ≡ numbers_among (shown es) k = ap items_of none ∙ sym (numbers_among-lookup es k) in sym none_there ∙ changed ∙ ap f none_there)

-- ---- by the parts of an index

-- what an index of these parts is seen as
abbrev pub seen : {A : Type 0} → List ℕ → List (Vec ℕ A) → Segments → List (Place × Vec ℕ A) → Histories
seen psw rs s es = record { psw = psw; registers = map (λ v. v.items) rs; bytes = byte_numbers s; others = shown es }

-- the numbers of a byte
pub byte_numbers-at : (s : Segments) (a : ℕ) → AreSegments s → get_or (byte_numbers s) a [] ≡ numbers_at s a
byte_numbers-at s a whole =
    let f : ℕ → List ℕ = λ l. numbers_of_segment (slice_get s.segments.items l)
    in ap (λ d. get_or (byte_numbers s) a d) (sym whole.unaltered) ∙ get_or-map f s.labels.items a 0

-- a place whose numbers stand in the map
abbrev pub IsOther : List (List ℕ) → Place → Type 0
IsOther rs Psw = ⊥
IsOther rs (Byte a) = ⊥
IsOther rs (Register n) = slice_get rs n ≡ None
IsOther rs p = Unit {0}

pub IsOther-default : (rs : List (List ℕ)) (p : Place) → p ≢ Psw → ((n : ℕ) → p ≡ Register n → ⊥) → ((a : ℕ) → p ≡ Byte a → ⊥) → IsOther rs p
IsOther-default rs Psw h i j = h refl
IsOther-default rs (Byte a) h i j = j a refl
IsOther-default rs (Register n) h i j = absurd (i n refl)
IsOther-default rs p h i j = tt

pub IsOther-register : {A : Type 0} (rs : List (Vec ℕ A)) (p : Place) (n i : ℕ) → p ≡ Register n → i ≡ n → length rs ≤ i → IsOther (map (λ (v : Vec ℕ A). v.items) rs) p
IsOther-register {A} rs p n i e same past =
    let none : slice_get (map (λ (v : Vec ℕ A). v.items) rs) n ≡ None
    = slice_get-map (λ (v : Vec ℕ A). v.items) rs n ∙ ap (λ o. option_map (λ (v : Vec ℕ A). v.items) o) (slice_get_past rs n (omega arith))
    in subst (λ (q : Place). IsOther (map (λ (v : Vec ℕ A). v.items) rs) q) (sym e) none

pub numbers-other : (h : Histories) (p : Place) → IsOther h.registers p → numbers h p ≡ numbers_among h.others p
numbers-other h Psw o = absurd o
numbers-other h (Byte a) o = absurd o
numbers-other h (Register n) o = ap (λ r. numbers_or r (numbers_among h.others (Register n))) o
numbers-other h p o = refl

-- what was looked up in the map
pub numbers-looked_up : {A : Type 0} (h : Histories) (psw : List ℕ) (rs : List (Vec ℕ A)) (s : Segments) (es : List (Place × Vec ℕ A)) (p q : Place) (found : Option (Vec ℕ A)) (ns : List ℕ)
    → seen psw rs s es ≡ h → IsOther (map (λ (v : Vec ℕ A). v.items) rs) p → q ≡ p → found ≡ lookup (is_at (compare q)) es → ns ≡ items_of found → ns ≡ numbers h p
numbers-looked_up h psw rs s es p q found ns view other same at are =
    are ∙ ap items_of at ∙ sym (numbers_among-lookup es q) ∙ ap (λ x. numbers_among (shown es) x) same
    ∙ sym (numbers-other (seen psw rs s es) p other) ∙ ap (λ g. numbers g p) view

-- each list is empty
pub numbers-none : {A : Type 0} (psw : List ℕ) (rs : List (Vec ℕ A)) (s : Segments) (es : List (Place × Vec ℕ A)) → psw ≡ [] → ((k : ℕ) (d : Vec ℕ A) → k < length rs → (get_or rs k d).items ≡ [])
    → AreSegments s → ((a : ℕ) → numbers_at s a ≡ []) → es ≡ [] → (p : Place) → numbers (seen psw rs s es) p ≡ []
numbers-none psw rs s es e empty whole none f Psw = e
numbers-none psw rs s es e empty whole none f (Byte a) = byte_numbers-at s a whole ∙ none a
numbers-none {A} psw rs s es e empty whole none f (Register n) =
    let by : (o : Option (Vec ℕ A)) → slice_get rs n ≡ o → numbers_or (option_map (λ (v : Vec ℕ A). v.items) o) (numbers_among (shown es) (Register n)) ≡ []
    = λ o. elim o as (λ x. slice_get rs n ≡ x → numbers_or (option_map (λ (v : Vec ℕ A). v.items) x) (numbers_among (shown es) (Register n)) ≡ []) [
      | None ↦ λ g. ap (λ xs. numbers_among (shown xs) (Register n)) f
      | Some v ↦ λ g. ap (λ (w : Vec ℕ A). w.items) (sym (get_or_from_slice_get rs n v v g)) ∙ empty n v (slice_get_within rs n v g)
    ]
    in ap (λ o. numbers_or o (numbers_among (shown es) (Register n))) (slice_get-map (λ (v : Vec ℕ A). v.items) rs n) ∙ by (slice_get rs n) refl
numbers-none psw rs s es e empty whole none f p = ap (λ xs. numbers_among (shown xs) p) f

-- what is read of elements that are alike is the same
pub map-alike : {X Y : Type 0} (f : X → Y) (R : X → X → Type 0) (xs ys : List X) → ((x y : X) → R x y → f y ≡ f x) → AllZip R xs ys → map f ys ≡ map f xs
map-alike f R [] [] same z = refl
map-alike f R [] (y ∷ ys) same z = absurd z
map-alike f R (x ∷ xs) [] same z = absurd z
map-alike f R (x ∷ xs) (y ∷ ys) same z = rw (same x y z.0) (ap (λ zs. f x ∷ zs) (map-alike f R xs ys same z.1))

-- each list is the same
pub numbers-copied : {A : Type 0} (psw old_psw : List ℕ) (rs old_rs : List (Vec ℕ A)) (s old_s : Segments) (es old_es : List (Place × Vec ℕ A))
    → psw ≡ old_psw → map (λ (v : Vec ℕ A). v.items) rs ≡ map (λ (v : Vec ℕ A). v.items) old_rs → AreSegments old_s → AreSegments s → KeepsNumbers old_s s
    → shown es ≡ shown old_es → (p : Place) → numbers (seen psw rs s es) p ≡ numbers (seen old_psw old_rs old_s old_es) p
numbers-copied psw old_psw rs old_rs s old_s es old_es same registers old_whole whole kept others Psw = same
numbers-copied psw old_psw rs old_rs s old_s es old_es same registers old_whole whole kept others (Byte a) =
    byte_numbers-at s a whole ∙ kept a ∙ sym (byte_numbers-at old_s a old_whole)
numbers-copied {A} psw old_psw rs old_rs s old_s es old_es same registers old_whole whole kept others (Register n) =
    ap (λ xs. numbers_or (slice_get xs n) (numbers_among (shown es) (Register n))) registers
    ∙ ap (λ xs. numbers_or (slice_get (map (λ (v : Vec ℕ A). v.items) old_rs) n) (numbers_among xs (Register n))) others
numbers-copied psw old_psw rs old_rs s old_s es old_es same registers old_whole whole kept others p = ap (λ xs. numbers_among xs p) others

-- what holds of each call's result holds of each element that `from_fn` made
pub made-each : {F B : Type 0} (g : Mut F (ℕ × Unit {0}) B) (P : B → Type 0) → ((f q : F) (i : ℕ) (y : B) → Called g f (i, tt) y q → P y)
    → (f : F) (ys : List B) (i n : ℕ) → IsFromFnResultFrom g f ys i n → (k : ℕ) (d : B) → i ≤ k → k < i + n → P (get_or ys k d)
made-each g P step f ys i zero h k d low high = absurd (omega arith)
made-each {F} {B} g P step f ys i (suc n) h k d low high = elim (eqb_tells i k) [
  | inl e ↦ (let here : P (get_or ys i d) = subst (λ (x : B). P x) (sym (h.2.1 d)) (step f h.0 i h.1 h.3) in subst (λ (j : ℕ). P (get_or ys j d)) e.1 here)
  | inr e ↦ (let other : i ≢ k = e.1 in made-each g P step h.0 ys (i + 1) n h.4 k d (omega arith) (omega arith))
]

-- ---- a change of one place

-- the numbers of one place are changed, and all others are as before
abbrev pub Changes : (List ℕ → List ℕ) → Place → Histories → Histories → Type 0
Changes f k g h = (p : Place) → numbers h p ≡ cond (same_place k p) (f (numbers g p)) (numbers g p)

-- the items of a list, with another at a place
slice_get-set : {X : Type 0} (xs : List X) (n m : ℕ) (x : X) → n < length xs → slice_get (set xs n x) m ≡ cond (eqb n m) (Some x) (slice_get xs m)
slice_get-set {X} xs n m x l = elim (eqb_tells n m) [
  | inl e ↦ ap (λ i. slice_get (set xs n x) i) (sym e.1) ∙ slice_get-set_at xs n x l ∙ ap (λ b. cond b (Some x) (slice_get xs m)) (sym e.0)
  | inr e ↦ slice_get-set_other xs n m x (λ s. e.1 (sym s)) ∙ ap (λ b. cond b (Some x) (slice_get xs m)) (sym e.0)
]

pub Changes-register : {A : Type 0} (f : List ℕ → List ℕ) (psw : List ℕ) (rs : List (Vec ℕ A)) (s : Segments) (es : List (Place × Vec ℕ A)) (n : ℕ) (old new : Vec ℕ A)
    → n < length rs → old ≡ get_or rs n old → new.items ≡ f old.items → Changes f (Register n) (seen psw rs s es) (seen psw (set rs n new) s es)
Changes-register {A} f psw rs s es n old new within there e (Register m) =
    let items : Vec ℕ A → List ℕ = λ v. v.items
    in let others : List ℕ = numbers_among (shown es) (Register m)
    in let by : (b : Bool) → eqb n m ≡ b
    → numbers_or (option_map items (cond b (Some new) (slice_get rs m))) others ≡ cond b (f (numbers_or (option_map items (slice_get rs m)) others)) (numbers_or (option_map items (slice_get rs m)) others)
    = λ b. elim b as (λ x. eqb n m ≡ x
    → numbers_or (option_map items (cond x (Some new) (slice_get rs m))) others ≡ cond x (f (numbers_or (option_map items (slice_get rs m)) others)) (numbers_or (option_map items (slice_get rs m)) others)) [
      | true ↦ λ t.
          let one : n ≡ m = eqb-true n m t
          in let found : slice_get rs n ≡ Some old = slice_get-get_or rs n old within ∙ ap (λ v. Some v) (sym there)
          in e ∙ ap (λ o. f (numbers_or (option_map items o) others)) (sym found ∙ ap (λ i. slice_get rs i) one)
      | false ↦ λ t. refl
    ]
    in ap (λ o. numbers_or o others) (slice_get-map items (set rs n new) m ∙ ap (λ o. option_map items o) (slice_get-set rs n m new within))
    ∙ by (eqb n m) refl
    ∙ ap (λ o. cond (eqb n m) (f (numbers_or o others)) (numbers_or o others)) (sym (slice_get-map items rs m))
Changes-register f psw rs s es n old new within there e p = refl

-- a list in the map is no list elsewhere
unequal : (rs : List (List ℕ)) (k p : Place) → IsOther rs k → (IsOther rs p → ⊥) → same_place k p ≡ false
unequal rs k p o not_there = same_place-false k p (λ e. not_there (subst (λ (q : Place). IsOther rs q) e o))

pub Changes-other : {A : Type 0} (f : List ℕ → List ℕ) (psw : List ℕ) (rs : List (Vec ℕ A)) (s : Segments) (es fs : List (Place × Vec ℕ A)) (k : Place) → IsOther (map (λ (v : Vec ℕ A). v.items) rs) k
    → ((p : Place) → numbers_among (shown fs) p ≡ cond (same_place k p) (f (numbers_among (shown es) p)) (numbers_among (shown es) p))
    → Changes f k (seen psw rs s es) (seen psw rs s fs)
Changes-other {A} f psw rs s es fs k other h Psw = rw (unequal (map (λ (v : Vec ℕ A). v.items) rs) k Psw other (λ o. o)) refl
Changes-other {A} f psw rs s es fs k other h (Byte a) = rw (unequal (map (λ (v : Vec ℕ A). v.items) rs) k (Byte a) other (λ o. o)) refl
Changes-other {A} f psw rs s es fs k other h (Register n) =
    let all : List (List ℕ) = map (λ (v : Vec ℕ A). v.items) rs
    in let before : List ℕ = numbers_among (shown es) (Register n)
    in let after : List ℕ = numbers_among (shown fs) (Register n)
    in let by : (o : Option (List ℕ)) → slice_get all n ≡ o → numbers_or o after ≡ cond (same_place k (Register n)) (f (numbers_or o before)) (numbers_or o before)
    = λ o. elim o as (λ x. slice_get all n ≡ x → numbers_or x after ≡ cond (same_place k (Register n)) (f (numbers_or x before)) (numbers_or x before)) [
      | None ↦ λ g. h (Register n)
      | Some ns ↦ λ g. ap (λ b. cond b (f ns) ns) (sym (unequal all k (Register n) other (λ e. let none : slice_get all n ≡ None = e in cc)))
    ]
    in by (slice_get all n) refl
Changes-other f psw rs s es fs k other h p = h p

-- the numbers of all places stay
abbrev pub Keeps : Histories → Histories → Type 0
Keeps g h = (p : Place) → numbers h p ≡ numbers g p

cond-same : (b : Bool) (ns : List ℕ) → cond b ns ns ≡ ns
cond-same true ns = refl
cond-same false ns = refl

pub Keeps-register : {A : Type 0} (psw : List ℕ) (rs : List (Vec ℕ A)) (s : Segments) (es : List (Place × Vec ℕ A)) (n : ℕ) (old new : Vec ℕ A)
    → n < length rs → old ≡ get_or rs n old → new.items ≡ old.items → Keeps (seen psw rs s es) (seen psw (set rs n new) s es)
Keeps-register psw rs s es n old new within there e p =
    Changes-register (λ ns. ns) psw rs s es n old new within there e p ∙ cond-same (same_place (Register n) p) (numbers (seen psw rs s es) p)

or-none : (b : Bool) → (b || false) ≡ b
or-none true = refl
or-none false = refl

pub Gains-one : (k : ℕ) (q : Place) (g h : Histories) → Changes (with_number k) q g h → Gains k (q ∷ []) g h
Gains-one k q g h c p = c p ∙ ap (λ b. cond b (with_number k (numbers g p)) (numbers g p)) (sym (or-none (same_place q p)))

pub Keeps-other : {A : Type 0} (psw : List ℕ) (rs : List (Vec ℕ A)) (s : Segments) (es fs : List (Place × Vec ℕ A))
    → ((p : Place) → numbers_among (shown fs) p ≡ numbers_among (shown es) p) → Keeps (seen psw rs s es) (seen psw rs s fs)
Keeps-other psw rs s es fs h Psw = refl
Keeps-other psw rs s es fs h (Byte a) = refl
Keeps-other {A} psw rs s es fs h (Register n) = ap (λ ns. numbers_or (slice_get (map (λ (v : Vec ℕ A). v.items) rs) n) ns) (h (Register n))
Keeps-other psw rs s es fs h p = h p

pub GainsInPart-none : (k : ℕ) (ps : List Place) (g h : Histories) → Keeps g h → GainsInPart k ps g h
GainsInPart-none k ps g h same = record { each = λ p. inl (same p); outside = λ p o. same p }

pub Loses-one : (k : ℕ) (q : Place) (g h : Histories) → Changes (without_number k) q g h → Loses k (q ∷ []) g h
Loses-one k q g h c =
    let may : (b : Bool) (old new : List ℕ) → new ≡ cond b (without_number k old) old → MayLose k old new
    = λ b. elim b as (λ x. (old new : List ℕ) → new ≡ cond x (without_number k old) old → MayLose k old new) [ true ↦ λ old new e. inr e | false ↦ λ old new e. inl e ]
    in record {
      each = λ p. may (same_place q p) (numbers g p) (numbers h p) (c p);
      inside = λ p i. c p ∙ ap (λ b. cond b (without_number k (numbers g p)) (numbers g p)) (sym (or-none (same_place q p)) ∙ i);
    }

-- ---- a change of bytes

-- which places are bytes that follow each other
among-bytes : (a n : ℕ) (p : Place) → is_among (byte_places a n) p ≡ is_in_run a n p
among-bytes a n p =
    let long : length (range_with_len 0 n) ≡ n = length-range_with_len 0 n
    in ap (λ (ps : List Place). is_among ps p) (ap (λ m. byte_places a m) (sym long) ∙ sym (places-of-bytes a (range_with_len 0 n)))
    ∙ has-run a n p (range_with_len 0 n) long

pub Gains-bytes : {A : Type 0} (k a n : ℕ) (psw : List ℕ) (rs : List (Vec ℕ A)) (s t : Segments) (es : List (Place × Vec ℕ A)) → AreSegments s → AreSegments t → Gained k a (a + n) s t
    → Gains k (byte_places a n) (seen psw rs s es) (seen psw rs t es)
Gains-bytes k a n psw rs s t es ws wt gained (Byte x) =
    byte_numbers-at t x wt ∙ gained x ∙ ap (λ ns. cond (is_between a (a + n) x) (with_number k ns) ns) (sym (byte_numbers-at s x ws))
    ∙ ap (λ b. cond b (with_number k (get_or (byte_numbers s) x [])) (get_or (byte_numbers s) x [])) (sym (among-bytes a n (Byte x)))
Gains-bytes k a n psw rs s t es ws wt gained p =
    ap (λ b. cond b (with_number k (numbers (seen psw rs s es) p)) (numbers (seen psw rs s es) p)) (sym (among-bytes a n p))

may_gain : (k : ℕ) (old new was is : List ℕ) → was ≡ old → is ≡ new → MayGain k old new → MayGain k was is
may_gain k old new was is d e (inl m) = inl (e ∙ m ∙ sym d)
may_gain k old new was is d e (inr m) = inr (e ∙ m ∙ ap (with_number k) (sym d))

may_lose : (k : ℕ) (old new was is : List ℕ) → was ≡ old → is ≡ new → MayLose k old new → MayLose k was is
may_lose k old new was is d e (inl m) = inl (e ∙ m ∙ sym d)
may_lose k old new was is d e (inr m) = inr (e ∙ m ∙ ap (without_number k) (sym d))

may_gain-bytes : {A : Type 0} (k a n : ℕ) (psw : List ℕ) (rs : List (Vec ℕ A)) (s t : Segments) (es : List (Place × Vec ℕ A)) → AreSegments s → AreSegments t → GainedInPart k a (a + n) s t
    → (p : Place) → MayGain k (numbers (seen psw rs s es) p) (numbers (seen psw rs t es) p)
may_gain-bytes k a n psw rs s t es ws wt part (Byte x) =
    may_gain k (numbers_at s x) (numbers_at t x) (get_or (byte_numbers s) x []) (get_or (byte_numbers t) x []) (byte_numbers-at s x ws) (byte_numbers-at t x wt) (part.each x)
may_gain-bytes k a n psw rs s t es ws wt part p = inl refl

outside-bytes : {A : Type 0} (k a n : ℕ) (psw : List ℕ) (rs : List (Vec ℕ A)) (s t : Segments) (es : List (Place × Vec ℕ A)) → AreSegments s → AreSegments t → GainedInPart k a (a + n) s t
    → (p : Place) → is_among (byte_places a n) p ≡ false → numbers (seen psw rs t es) p ≡ numbers (seen psw rs s es) p
outside-bytes k a n psw rs s t es ws wt part (Byte x) o =
    byte_numbers-at t x wt ∙ part.outside x (sym (among-bytes a n (Byte x)) ∙ o) ∙ sym (byte_numbers-at s x ws)
outside-bytes k a n psw rs s t es ws wt part p o = refl

pub GainsInPart-bytes : {A : Type 0} (k a n : ℕ) (psw : List ℕ) (rs : List (Vec ℕ A)) (s t : Segments) (es : List (Place × Vec ℕ A)) → AreSegments s → AreSegments t → GainedInPart k a (a + n) s t
    → GainsInPart k (byte_places a n) (seen psw rs s es) (seen psw rs t es)
GainsInPart-bytes k a n psw rs s t es ws wt part = record { each = may_gain-bytes k a n psw rs s t es ws wt part; outside = outside-bytes k a n psw rs s t es ws wt part }

may_lose-bytes : {A : Type 0} (k a n : ℕ) (psw : List ℕ) (rs : List (Vec ℕ A)) (s t : Segments) (es : List (Place × Vec ℕ A)) → AreSegments s → AreSegments t → Lost k a (a + n) s t
    → (p : Place) → MayLose k (numbers (seen psw rs s es) p) (numbers (seen psw rs t es) p)
may_lose-bytes k a n psw rs s t es ws wt lost (Byte x) =
    may_lose k (numbers_at s x) (numbers_at t x) (get_or (byte_numbers s) x []) (get_or (byte_numbers t) x []) (byte_numbers-at s x ws) (byte_numbers-at t x wt) (lost.each x)
may_lose-bytes k a n psw rs s t es ws wt lost p = inl refl

inside-bytes : {A : Type 0} (k a n : ℕ) (psw : List ℕ) (rs : List (Vec ℕ A)) (s t : Segments) (es : List (Place × Vec ℕ A)) → AreSegments s → AreSegments t → Lost k a (a + n) s t
    → (p : Place) → is_among (byte_places a n) p ≡ true → numbers (seen psw rs t es) p ≡ without_number k (numbers (seen psw rs s es) p)
inside-bytes k a n psw rs s t es ws wt lost (Byte x) i =
    byte_numbers-at t x wt ∙ lost.inside x (sym (among-bytes a n (Byte x)) ∙ i) ∙ ap (without_number k) (sym (byte_numbers-at s x ws))
inside-bytes k a n psw rs s t es ws wt lost p i = absurd (let none : is_among (byte_places a n) p ≡ false = among-bytes a n p in cc)

pub Loses-bytes : {A : Type 0} (k a n : ℕ) (psw : List ℕ) (rs : List (Vec ℕ A)) (s t : Segments) (es : List (Place × Vec ℕ A)) → AreSegments s → AreSegments t → Lost k a (a + n) s t
    → Loses k (byte_places a n) (seen psw rs s es) (seen psw rs t es)
Loses-bytes k a n psw rs s t es ws wt lost = record { each = may_lose-bytes k a n psw rs s t es ws wt lost; inside = inside-bytes k a n psw rs s t es ws wt lost }

-- ---- the places of a span, and what the index was seen as
pub Gains-span : (k : ℕ) (sp : Span) (ps : List Place) (f g h : Histories) → places_of_span sp ≡ ps → f ≡ g → Gains k ps f h → Gains k (places_of_span sp) g h
Gains-span k sp ps f g h are view gains = subst (λ (qs : List Place). Gains k qs g h) (sym are) (subst (λ (e : Histories). Gains k ps e h) view gains)

pub GainsInPart-span : (k : ℕ) (sp : Span) (ps : List Place) (f g h : Histories) → places_of_span sp ≡ ps → f ≡ g → GainsInPart k ps f h → GainsInPart k (places_of_span sp) g h
GainsInPart-span k sp ps f g h are view gains = subst (λ (qs : List Place). GainsInPart k qs g h) (sym are) (subst (λ (e : Histories). GainsInPart k ps e h) view gains)

pub Loses-span : (k : ℕ) (sp : Span) (ps : List Place) (f g h : Histories) → places_of_span sp ≡ ps → f ≡ g → Loses k ps f h → Loses k (places_of_span sp) g h
Loses-span k sp ps f g h are view loses = subst (λ (qs : List Place). Loses k qs g h) (sym are) (subst (λ (e : Histories). Loses k ps e h) view loses)
