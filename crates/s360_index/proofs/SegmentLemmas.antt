-- The bytes of storage in segments, after a change.
use Rattle.std.proofs.Common.{◌≡◌, ◌≢◌, ◌<◌, ◌≤◌, ◌+◌, ◌++◌, ◌⊎◌, ◌∙◌, ℕ, zero, suc, Option, Some, None, Result, Ok, Err, List, [], ◌∷◌, true, false, refl, ap, sym, subst, inl, inr, set, length, arith, ◌-◌, take, replicate, OnErr, slice_index_or}
use Rattle.std.specs.List.{AllZip, slice_get}
use Rattle.std.proofs.lemmas.Bool.{and_from, and_left, and_parts, and_right, cases_eq, cases_lt, cond-true, cond-false, le-leb, leb-true, lt-leb, lt-ltb, le-ltb, ltb-true}
use Rattle.std.proofs.lemmas.List.{get_or_append_left, get_or-append_right, get_or_past, length-set, length_push, take_all}
use Rattle.std.proofs.lemmas.List.Elements.{length_all_zip}
use Rattle.std.proofs.lemmas.Option.{get_or_from_slice_get, same_Some, slice_get-get_or, slice_get_cases, slice_get_read, slice_get_within}
use Rattle.indexmap.proofs.IndexTableLemmas.Probe.{pigeonhole}
use Rattle.s360_index.specs.declared.segments.Segment.{Segment}
use Rattle.s360_index.specs.declared.segments.Segments.{Segments}
use Rattle.s360_index.specs.Numbers.{with_number, without_number}
use Rattle.s360_index.specs.Segments.{AreSegments, Gained, IsCut, IsInside, IsSameSegment, IsSegment, KeepsCuts, KeepsNumbers, KeepsNumbersBefore, KeepsNumbersFrom, Lost, Relabelled, is_between, label, numbers_at, numbers_of_segment}

-- what holds whatever the result
pub OnErr-from : {T E P : Type 0} (r : Result T E) → P → OnErr r P
OnErr-from (Ok x) p = tt
OnErr-from (Err e) p = p

-- an element of a list with one more, and of one with another element at an index
pub slice_get-push_below : {X : Type 0} (xs : List X) (y : X) (j : ℕ) → j < length xs → slice_get (xs ++ y ∷ []) j ≡ slice_get xs j
slice_get-push_below [] y j l = absurd (omega (arith, l))
slice_get-push_below (x ∷ xs) y zero l = refl
slice_get-push_below (x ∷ xs) y (suc j) l = slice_get-push_below xs y j (omega (arith, l))

pub slice_get-push_at : {X : Type 0} (xs : List X) (y : X) → slice_get (xs ++ y ∷ []) (length xs) ≡ Some y
slice_get-push_at [] y = refl
slice_get-push_at (x ∷ xs) y = slice_get-push_at xs y

pub slice_get-set_at : {X : Type 0} (xs : List X) (i : ℕ) (y : X) → i < length xs → slice_get (set xs i y) i ≡ Some y
slice_get-set_at [] i y l = absurd (omega (arith, l))
slice_get-set_at (x ∷ xs) zero y l = refl
slice_get-set_at (x ∷ xs) (suc i) y l = slice_get-set_at xs i y (omega (arith, l))

pub slice_get-set_other : {X : Type 0} (xs : List X) (i j : ℕ) (y : X) → j ≢ i → slice_get (set xs i y) j ≡ slice_get xs j
slice_get-set_other (x ∷ xs) zero zero y n = absurd (n refl)
slice_get-set_other (x ∷ xs) (suc i) (suc j) y n = slice_get-set_other xs i j y (λ e. n (ap suc e))
slice_get-set_other xs i j y n = refl

-- which element it is
pub cases_push : {X : Type 0} (xs : List X) (y x : X) (j : ℕ) → slice_get (xs ++ y ∷ []) j ≡ Some x → ((j ≡ length xs) × (x ≡ y)) ⊎ (slice_get xs j ≡ Some x)
cases_push xs y x j h = elim (cases_lt j (length xs)) [
  | inl l ↦ inr (sym (slice_get-push_below xs y j l) ∙ h)
  | inr l ↦
      let at : j ≡ length xs = omega (arith, l, slice_get_within (xs ++ y ∷ []) j x h, length_push xs y)
      in inl (at, sym (same_Some y x (sym (slice_get-push_at xs y) ∙ ap (slice_get (xs ++ y ∷ [])) (sym at) ∙ h)))
]

pub cases_set : {X : Type 0} (xs : List X) (i j : ℕ) (y x : X) → i < length xs → slice_get (set xs i y) j ≡ Some x → ((j ≡ i) × (x ≡ y)) ⊎ ((j ≢ i) × (slice_get xs j ≡ Some x))
cases_set xs i j y x l h = elim (cases_eq j i) [
  | inl e ↦ inl (e, sym (same_Some y x (sym (slice_get-set_at xs i y l) ∙ ap (slice_get (set xs i y)) (sym e) ∙ h)))
  | inr n ↦ inr (n, sym (slice_get-set_other xs i j y n) ∙ h)
]

-- bytes from one on and before an end
pub cases_between : (start end a : ℕ) → ((start ≤ a) × (a < end)) ⊎ ((a < start) ⊎ (end ≤ a))
cases_between start end a = elim (cases_lt a start) [
  | inl l ↦ inr (inl l)
  | inr l ↦ elim (cases_lt a end) [ inl m ↦ inl (l, m) | inr m ↦ inr (inr m) ]
]

pub is_between-inside : (start end a : ℕ) → start ≤ a → a < end → is_between start end a ≡ true
is_between-inside start end a l m = and_from _ _ (le-leb start a l) (lt-ltb a end m)

pub is_between-outside : (start end a : ℕ) → (a < start) ⊎ (end ≤ a) → is_between start end a ≡ false
is_between-outside start end a h = elim h [
  | inl l ↦ and_left _ _ (lt-leb start a l)
  | inr l ↦ and_right _ _ (le-ltb a end l)
]

pub inside-is_between : (start end a : ℕ) → is_between start end a ≡ true → (start ≤ a) × (a < end)
inside-is_between start end a h = let both = and_parts _ _ h in (leb-true start a both.0, ltb-true a end both.1)

-- their labels
pub Relabelled-inside : (old new : List ℕ) (start end n a : ℕ) → Relabelled old new start end n → start ≤ a → a < end → slice_index_or new a 0 ≡ n
Relabelled-inside old new start end n a r l m = r.labels a ∙ cond-true _ n (slice_index_or old a 0) (is_between-inside start end a l m)

pub Relabelled-outside : (old new : List ℕ) (start end n a : ℕ) → Relabelled old new start end n → (a < start) ⊎ (end ≤ a) → slice_index_or new a 0 ≡ slice_index_or old a 0
Relabelled-outside old new start end n a r h = r.labels a ∙ cond-false _ n (slice_index_or old a 0) (is_between-outside start end a h)

pub Relabelled-same : (old new xs ys : List ℕ) (start end n m : ℕ) → Relabelled xs ys start end m → old ≡ xs → new ≡ ys → n ≡ m → Relabelled old new start end n
Relabelled-same old new xs ys start end n m r e f g = rw (e, f, g) r

-- the segment that a read gives is the one that is known to be there, with a byte inside
pub record IsReadAt (s : Segments) (i at : ℕ) (g : Segment) : Type 0 where
  pub is : slice_get s.segments.items i ≡ Some g
  pub behind : g.start < at
  pub before : at < g.end

pub read-inside : (s : Segments) (gs : List Segment) (i at : ℕ) (g : Segment) → IsInside s i at → g ≡ slice_index_or gs i g → gs ≡ s.segments.items → IsReadAt s i at g
read-inside s gs i at g h e f =
    let same : g ≡ h.0 = e ∙ ap (λ (xs : List Segment). slice_index_or xs i g) f ∙ get_or_from_slice_get s.segments.items i h.0 g h.1
    in record {
      is = h.1 ∙ ap Some (sym same);
      behind = omega (arith, ap (λ (x : Segment). x.start) same, h.2);
      before = omega (arith, ap (λ (x : Segment). x.end) same, h.3);
    }

-- where there are segments, each byte is in one
pub label-below : (s : Segments) (a : ℕ) → AreSegments s → 0 < length s.segments.items → label s a < length s.segments.items
label-below s a w l = elim (cases_lt a (length s.labels.items)) [
  | inl m ↦ w.labelled a m
  | inr m ↦ omega (arith, l, get_or_past s.labels.items a 0 m)
]

-- no two segments begin at one byte, so that there are few
abbrev start_of : Option Segment → ℕ
start_of None = 0
start_of (Some g) = g.start

record Begins (s : Segments) (i : ℕ) : Type 0 where
  pub within : start_of (slice_get s.segments.items i) < length s.labels.items
  pub its : label s (start_of (slice_get s.segments.items i)) ≡ i

begins : (s : Segments) (i : ℕ) → AreSegments s → 0 < i → i < length s.segments.items → Begins s i
begins s i w some l = elim (slice_get_cases s.segments.items i).1 [
  | inl p ↦
      let is : IsSegment s i p.0 = w.whole i p.0 some p.2
      in let start : start_of (slice_get s.segments.items i) ≡ p.0.start = ap start_of p.2
      in record { within = omega (arith, is.some, is.inside, start); its = ap (label s) start ∙ is.has p.0.start (omega arith) is.some }
  | inr p ↦ absurd (omega (arith, p.0, l))
]

pub segments-few : (s : Segments) → AreSegments s → length s.segments.items ≤ 1048577
segments-few s w =
    let count : ℕ = length s.segments.items - 1
    in let begun : (i : ℕ) → i < count → Begins s (i + 1) = λ i l. begins s (i + 1) w (omega arith) (omega (arith, l))
    in omega (
      arith,
      w.few,
      pigeonhole count (length s.labels.items) (λ i. start_of (slice_get s.segments.items (i + 1)))
          (λ i l. (begun i l).within)
          (λ i j l m e. omega (arith, (begun i l).its, (begun j m).its, ap (label s) e)),
    )

-- two parts of a segment, the one up to a byte and the one from it on
pub record AreParts (old low high : Segment) (at : ℕ) : Type 0 where
  pub first : low.start ≡ old.start
  pub cut : low.end ≡ at
  pub next : high.start ≡ at
  pub last : high.end ≡ old.end

-- a segment is parted in two at a byte: one has its index, and the other is the last
pub record IsSplit (s t : Segments) (i at : ℕ) (old kept new : Segment) : Type 0 where
  pub some : 0 < i
  pub was : slice_get s.segments.items i ≡ Some old
  pub behind : old.start < at
  pub before : at < old.end
  pub segments : t.segments.items ≡ set s.segments.items i kept ++ new ∷ []
  pub labels : Relabelled s.labels.items t.labels.items new.start new.end (length s.segments.items)
  pub kept_numbers : kept.numbers.items ≡ old.numbers.items
  pub new_numbers : new.numbers.items ≡ old.numbers.items
  pub parts : AreParts old new kept at ⊎ AreParts old kept new at

split-new : {s t : Segments} {i at : ℕ} {old kept new : Segment} → IsSplit s t i at old kept new → slice_get t.segments.items (length s.segments.items) ≡ Some new
split-new {s} {t} {i} {at} {old} {kept} {new} p =
    let count : length s.segments.items ≡ length (set s.segments.items i kept) = sym (length-set s.segments.items i kept)
    in ap (λ (gs : List Segment). slice_get gs (length s.segments.items)) p.segments
    ∙ ap (slice_get (set s.segments.items i kept ++ new ∷ [])) count
    ∙ slice_get-push_at (set s.segments.items i kept) new

split-other : {s t : Segments} {i at : ℕ} {old kept new : Segment} (j : ℕ) → IsSplit s t i at old kept new → j < length s.segments.items
    → slice_get t.segments.items j ≡ slice_get (set s.segments.items i kept) j
split-other {s} {t} {i} {at} {old} {kept} {new} j p l =
    ap (λ (gs : List Segment). slice_get gs j) p.segments ∙ slice_get-push_below (set s.segments.items i kept) new j (omega (arith, l, length-set s.segments.items i kept))

cases_split : {s t : Segments} {i at : ℕ} {old kept new : Segment} (j : ℕ) (g : Segment) → IsSplit s t i at old kept new → slice_get t.segments.items j ≡ Some g
    → ((j ≡ length s.segments.items) × (g ≡ new)) ⊎ (((j ≡ i) × (g ≡ kept)) ⊎ ((j ≢ i) × (slice_get s.segments.items j ≡ Some g)))
cases_split {s} {t} {i} {at} {old} {kept} {new} j g p h =
    elim (cases_push (set s.segments.items i kept) new g j (sym (ap (λ (gs : List Segment). slice_get gs j) p.segments) ∙ h)) [
      | inl e ↦ inl (e.0 ∙ length-set s.segments.items i kept, e.1)
      | inr k ↦ inr (cases_set s.segments.items i j kept g (slice_get_within s.segments.items i old p.was) k)
    ]

-- all bytes keep their numbers
pub split-numbers : (s t : Segments) (i at : ℕ) (old kept new : Segment) → AreSegments s → IsSplit s t i at old kept new → KeepsNumbers s t
split-numbers s t i at old kept new w p = λ a.
    let is : IsSegment s i old = w.whole i old p.some p.was
    in let within : i < length s.segments.items = slice_get_within s.segments.items i old p.was
    in elim (cases_between new.start new.end a) [
      | inl m ↦
          let l : label t a ≡ length s.segments.items = Relabelled-inside _ _ new.start new.end _ a p.labels m.0 m.1
          in let k : label s a ≡ i = is.has a (omega (arith, m, p)) (omega (arith, m, p))
          in ap (λ x. numbers_of_segment (slice_get t.segments.items x)) l ∙ ap numbers_of_segment (split-new p) ∙ p.new_numbers
          ∙ sym (ap (λ x. numbers_of_segment (slice_get s.segments.items x)) k ∙ ap numbers_of_segment p.was)
      | inr m ↦
          let l : label t a ≡ label s a = Relabelled-outside _ _ new.start new.end _ a p.labels m
          in let below : label s a < length s.segments.items = label-below s a w (omega (arith, within))
          in ap (λ x. numbers_of_segment (slice_get t.segments.items x)) l ∙ ap numbers_of_segment (split-other (label s a) p below)
          ∙ elim (cases_eq (label s a) i) [
            | inl e ↦
                ap (λ x. numbers_of_segment (slice_get (set s.segments.items i kept) x)) e ∙ ap numbers_of_segment (slice_get-set_at s.segments.items i kept within) ∙ p.kept_numbers
                ∙ sym (ap (λ x. numbers_of_segment (slice_get s.segments.items x)) e ∙ ap numbers_of_segment p.was)
            | inr n ↦ ap numbers_of_segment (slice_get-set_other s.segments.items i (label s a) kept n)
          ]
    ]

-- the new segment, the other part, and any other segment then
split-whole-new : (s t : Segments) (i at : ℕ) (old kept new : Segment) (j : ℕ) (g : Segment) → AreSegments s → IsSplit s t i at old kept new → IsSegment s i old
    → j ≡ length s.segments.items → g ≡ new → IsSegment t j g
split-whole-new s t i at old kept new j g w p is e f =
    let below : (a : ℕ) → label s a < length s.segments.items = λ a. label-below s a w (omega (arith, slice_get_within s.segments.items i old p.was))
    in rw (e, f) (record {
      some = omega (arith, p);
      inside = omega (arith, p, is.inside, p.labels.same_length);
      has = λ a l m. Relabelled-inside _ _ new.start new.end _ a p.labels l m;
      all = λ a h. elim (cases_between new.start new.end a) [
        | inl m ↦ m
        | inr m ↦ absurd (omega (arith, below a, Relabelled-outside _ _ new.start new.end _ a p.labels m, h))
      ];
    })

split-whole-kept : (s t : Segments) (i at : ℕ) (old kept new : Segment) (j : ℕ) (g : Segment) → AreSegments s → IsSplit s t i at old kept new → IsSegment s i old
    → j ≡ i → g ≡ kept → IsSegment t j g
split-whole-kept s t i at old kept new j g w p is e f =
    let within : i < length s.segments.items = slice_get_within s.segments.items i old p.was
    in rw (e, f) (record {
      some = omega (arith, p);
      inside = omega (arith, p, is.inside, p.labels.same_length);
      has = λ a l m. elim (cases_between new.start new.end a) [
        | inl n ↦ absurd (omega (arith, p, l, m, n))
        | inr n ↦ Relabelled-outside _ _ new.start new.end _ a p.labels n ∙ is.has a (omega (arith, p, l)) (omega (arith, p, m))
      ];
      all = λ a h. elim (cases_between new.start new.end a) [
        | inl n ↦ absurd (omega (arith, within, Relabelled-inside _ _ new.start new.end _ a p.labels n.0 n.1, h))
        | inr n ↦
            let m : (old.start ≤ a) × (a < old.end) = is.all a (sym (Relabelled-outside _ _ new.start new.end _ a p.labels n) ∙ h)
            in (omega (arith, p, m, n), omega (arith, p, m, n))
      ];
    })

split-whole-other : (s t : Segments) (i at : ℕ) (old kept new : Segment) (j : ℕ) (g : Segment) → AreSegments s → IsSplit s t i at old kept new → IsSegment s i old → IsSegment s j g
    → j ≢ i → slice_get s.segments.items j ≡ Some g → IsSegment t j g
split-whole-other s t i at old kept new j g w p is this n h =
    let within : j < length s.segments.items = slice_get_within s.segments.items j g h
    in record {
      some = this.some;
      inside = omega (arith, this.inside, p.labels.same_length);
      has = λ a l m.
          let here : label s a ≡ j = this.has a l m
          in elim (cases_between new.start new.end a) [
            | inl k ↦ absurd (n (sym here ∙ is.has a (omega (arith, p, k)) (omega (arith, p, k))))
            | inr k ↦ Relabelled-outside _ _ new.start new.end _ a p.labels k ∙ here
          ];
      all = λ a e. elim (cases_between new.start new.end a) [
        | inl k ↦ absurd (omega (arith, within, Relabelled-inside _ _ new.start new.end _ a p.labels k.0 k.1, e))
        | inr k ↦ this.all a (sym (Relabelled-outside _ _ new.start new.end _ a p.labels k) ∙ e)
      ];
    }

-- each byte is in one segment then, and those of each follow each other
pub split-whole : (s t : Segments) (i at : ℕ) (old kept new : Segment) → AreSegments s → IsSplit s t i at old kept new → AreSegments t
split-whole s t i at old kept new w p =
    let is : IsSegment s i old = w.whole i old p.some p.was
    in let within : i < length s.segments.items = slice_get_within s.segments.items i old p.was
    in let count : length t.segments.items ≡ length s.segments.items + 1
    = ap (λ (gs : List Segment). length gs) p.segments ∙ length_push (set s.segments.items i kept) new ∙ ap (λ n. n + 1) (length-set s.segments.items i kept)
    in let inside : (a : ℕ) → new.start ≤ a → a < new.end → label t a ≡ length s.segments.items
    = λ a l m. Relabelled-inside _ _ new.start new.end _ a p.labels l m
    in let outside : (a : ℕ) → (a < new.start) ⊎ (new.end ≤ a) → label t a ≡ label s a = λ a h. Relabelled-outside _ _ new.start new.end _ a p.labels h
    in let below : (a : ℕ) → label s a < length s.segments.items = λ a. label-below s a w (omega (arith, within))
    in let long : length t.labels.items ≡ length s.labels.items = p.labels.same_length
    in record {
      few = omega (arith, w.few, long);
      labelled = λ a l. elim (cases_between new.start new.end a) [
        | inl m ↦ omega (arith, inside a m.0 m.1, count)
        | inr m ↦ omega (arith, outside a m, below a, count)
      ];
      unaltered = ap numbers_of_segment (split-other 0 p (omega (arith, within)) ∙ slice_get-set_other s.segments.items i 0 kept (let n : 0 ≢ i = omega (arith, p.some) in n)) ∙ w.unaltered;
      whole = λ j g l h. elim (cases_split j g p h) [
        | inl e ↦ split-whole-new s t i at old kept new j g w p is e.0 e.1
        | inr k ↦ elim k [
          | inl e ↦ split-whole-kept s t i at old kept new j g w p is e.0 e.1
          | inr e ↦ split-whole-other s t i at old kept new j g w p is (w.whole j g l e.1) e.0 e.1
        ]
      ];
    }

-- no segment goes on from before an address to behind it that did not before, and none at this byte
pub split-cuts : (s t : Segments) (i at : ℕ) (old kept new : Segment) → IsSplit s t i at old kept new → KeepsCuts s t
split-cuts s t i at old kept new p = λ x k j g l h.
    let cut : (x ≤ old.start) ⊎ (old.end ≤ x) = k i old p.some p.was
    in elim (cases_split j g p h) [
      | inl e ↦ rw e.1 (elim cut [ inl m ↦ inl (omega (arith, p, m)) | inr m ↦ inr (omega (arith, p, m)) ])
      | inr f ↦ elim f [
        | inl e ↦ rw e.1 (elim cut [ inl m ↦ inl (omega (arith, p, m)) | inr m ↦ inr (omega (arith, p, m)) ])
        | inr e ↦ k j g l e.1
      ]
    ]

pub split-cut : (s t : Segments) (i at : ℕ) (old kept new : Segment) → AreSegments s → IsSplit s t i at old kept new → IsCut t at
split-cut s t i at old kept new w p = λ j g l h.
    let is : IsSegment s i old = w.whole i old p.some p.was
    in elim (cases_split j g p h) [
      | inl e ↦ rw e.1 (elim p.parts [ inl m ↦ inr (omega (arith, m)) | inr m ↦ inl (omega (arith, m)) ])
      | inr f ↦ elim f [
        | inl e ↦ rw e.1 (elim p.parts [ inl m ↦ inl (omega (arith, m)) | inr m ↦ inr (omega (arith, m)) ])
        | inr e ↦ elim (cases_between g.start g.end at) [
          | inl m ↦ absurd (e.0 (sym ((w.whole j g l e.1).has at m.0 m.1) ∙ is.has at (omega (arith, p)) p.before))
          | inr m ↦ elim m [ inl b ↦ inl (omega (arith, b)) | inr b ↦ inr b ]
        ]
      ]
    ]

-- the segment of a byte that some change has altered
pub record IsSegmentOf (s : Segments) (at i : ℕ) (g : Segment) : Type 0 where
  pub some : 0 < i
  pub is : slice_get s.segments.items i ≡ Some g
  pub segment : IsSegment s i g
  pub first : g.start ≤ at
  pub last : at < g.end

pub segment-of : (s : Segments) (at i : ℕ) (g : Segment) → AreSegments s → i ≡ label s at → i ≢ 0 → g ≡ slice_index_or s.segments.items i g → IsSegmentOf s at i g
segment-of s at i g w e n r =
    let some : 0 < i = omega (arith, n)
    in let within : at < length s.labels.items = elim (cases_lt at (length s.labels.items)) [
      | inl l ↦ l
      | inr l ↦ absurd (n (e ∙ get_or_past s.labels.items at 0 l))
    ]
    in let is : slice_get s.segments.items i ≡ Some g = slice_get_read s.segments.items _ i g refl (omega (arith, e, w.labelled at within)) r
    in let segment : IsSegment s i g = w.whole i g some is
    in let inside : (g.start ≤ at) × (at < g.end) = segment.all at (sym e)
    in record { some = some; is = is; segment = segment; first = inside.0; last = inside.1 }

-- all bytes before an address have labels
pub grow-whole : (s t : Segments) → AreSegments s → length s.labels.items ≤ length t.labels.items → length t.labels.items ≤ 1048576 → ((a : ℕ) → label t a ≡ label s a) → t.segments.items ≡ s.segments.items → 0 < length s.segments.items → AreSegments t
grow-whole s t w l few same e some = record {
  few = few;
  labelled = λ a m. omega (arith, same a, label-below s a w some, ap (λ (gs : List Segment). length gs) e);
  unaltered = ap (λ (gs : List Segment). numbers_of_segment (slice_get gs 0)) e ∙ w.unaltered;
  whole = λ i g m h.
      let is : IsSegment s i g = w.whole i g m (sym (ap (λ (gs : List Segment). slice_get gs i) e) ∙ h)
      in record {
        some = is.some;
        inside = omega (arith, is.inside);
        has = λ a b c. same a ∙ is.has a b c;
        all = λ a b. is.all a (sym (same a) ∙ b);
      };
}

-- the first segment is put
pub first-whole : (s t : Segments) (g : Segment) → AreSegments s → t.labels.items ≡ s.labels.items → s.segments.items ≡ [] → t.segments.items ≡ s.segments.items ++ g ∷ [] → g.numbers.items ≡ [] → AreSegments t
first-whole s t g w l e f n =
    let only : t.segments.items ≡ g ∷ [] = f ∙ ap (λ (gs : List Segment). gs ++ g ∷ []) e
    in let none : length s.labels.items ≡ 0 = elim (cases_lt 0 (length s.labels.items)) [
      | inl m ↦ absurd (omega (arith, w.labelled 0 m, ap (λ (gs : List Segment). length gs) e))
      | inr m ↦ omega (arith, m)
    ]
    in record {
      few = omega (arith, none, ap (λ (xs : List ℕ). length xs) l);
      labelled = λ a m. absurd (omega (arith, m, none, ap (λ (xs : List ℕ). length xs) l));
      unaltered = ap (λ (gs : List Segment). numbers_of_segment (slice_get gs 0)) only ∙ n;
      whole = λ i h m k. absurd (omega (arith, m, slice_get_within (g ∷ []) i h (sym (ap (λ (gs : List Segment). slice_get gs i) only) ∙ k)));
    }

replicate-zeros : (n a : ℕ) → ◌≡◌ {A = ℕ} (slice_index_or (replicate n 0) a 0) 0
replicate-zeros zero a = refl
replicate-zeros (suc n) zero = refl
replicate-zeros (suc n) (suc a) = replicate-zeros n a

-- more labels of bytes that no change has altered
pub label-more : (xs ys : List ℕ) (end n a : ℕ) → n ≡ length xs → n < end → ys ≡ take end xs ++ replicate (end - n) 0 → slice_index_or ys a 0 ≡ slice_index_or xs a 0
label-more xs ys end n a c l e =
    let whole : take end xs ≡ xs = take_all end xs (omega (arith, l, c))
    in ap (λ (zs : List ℕ). slice_index_or zs a 0) (e ∙ ap (λ (zs : List ℕ). zs ++ replicate (end - n) 0) whole)
    ∙ elim (cases_lt a (length xs)) [
      | inl m ↦ get_or_append_left xs (replicate (end - n) 0) 0 a m
      | inr m ↦ get_or-append_right xs (replicate (end - n) 0) (length xs) a 0 refl m ∙ replicate-zeros (end - n) (a - length xs) ∙ sym (get_or_past xs a 0 m)
    ]

-- bytes that no change has altered become a segment
pub record IsMade (s t : Segments) (new : Segment) : Type 0 where
  pub some : new.start < new.end
  pub inside : new.end ≤ length s.labels.items
  pub unaltered : (a : ℕ) → new.start ≤ a → a < new.end → label s a ≡ 0
  pub segments : t.segments.items ≡ s.segments.items ++ new ∷ []
  pub labels : Relabelled s.labels.items t.labels.items new.start new.end (length s.segments.items)

made-some : {s t : Segments} {new : Segment} → AreSegments s → IsMade s t new → 0 < length s.segments.items
made-some {s} {t} {new} w p = let within : new.start < length s.labels.items = omega (arith, p.some, p.inside) in omega (arith, w.labelled new.start within)

cases_made : {s t : Segments} {new : Segment} (j : ℕ) (g : Segment) → IsMade s t new → slice_get t.segments.items j ≡ Some g
    → ((j ≡ length s.segments.items) × (g ≡ new)) ⊎ (slice_get s.segments.items j ≡ Some g)
cases_made {s} {t} {new} j g p h = cases_push s.segments.items new g j (sym (ap (λ (gs : List Segment). slice_get gs j) p.segments) ∙ h)

pub make-whole : (s t : Segments) (new : Segment) → AreSegments s → IsMade s t new → AreSegments t
make-whole s t new w p =
    let some : 0 < length s.segments.items = made-some w p
    in let count : length t.segments.items ≡ length s.segments.items + 1 = ap (λ (gs : List Segment). length gs) p.segments ∙ length_push s.segments.items new
    in let below : (a : ℕ) → label s a < length s.segments.items = λ a. label-below s a w some
    in let inside : (a : ℕ) → new.start ≤ a → a < new.end → label t a ≡ length s.segments.items
    = λ a l m. Relabelled-inside _ _ new.start new.end _ a p.labels l m
    in let outside : (a : ℕ) → (a < new.start) ⊎ (new.end ≤ a) → label t a ≡ label s a = λ a h. Relabelled-outside _ _ new.start new.end _ a p.labels h
    in let long : length t.labels.items ≡ length s.labels.items = p.labels.same_length
    in record {
      few = omega (arith, w.few, long);
      labelled = λ a l. elim (cases_between new.start new.end a) [
        | inl m ↦ omega (arith, inside a m.0 m.1, count)
        | inr m ↦ omega (arith, outside a m, below a, count)
      ];
      unaltered = ap numbers_of_segment (ap (λ (gs : List Segment). slice_get gs 0) p.segments ∙ slice_get-push_below s.segments.items new 0 some) ∙ w.unaltered;
      whole = λ j g l h. elim (cases_made j g p h) [
        | inl e ↦ rw (e.0, e.1) (record {
          some = p.some;
          inside = omega (arith, p.inside, long);
          has = inside;
          all = λ a k. elim (cases_between new.start new.end a) [ inl m ↦ m | inr m ↦ absurd (omega (arith, below a, outside a m, k)) ];
        })
        | inr e ↦
            let this : IsSegment s j g = w.whole j g l e
            in let within : j < length s.segments.items = slice_get_within s.segments.items j g e
            in record {
              some = this.some;
              inside = omega (arith, this.inside, long);
              has = λ a k m. elim (cases_between new.start new.end a) [
                | inl b ↦ absurd (omega (arith, l, this.has a k m, p.unaltered a b.0 b.1))
                | inr b ↦ outside a b ∙ this.has a k m
              ];
              all = λ a k. elim (cases_between new.start new.end a) [
                | inl b ↦ absurd (omega (arith, within, inside a b.0 b.1, k))
                | inr b ↦ this.all a (sym (outside a b) ∙ k)
              ];
            }
      ];
    }

-- they have a number then, and no segment goes on from before an address to behind it that did not before
pub make-gained : (s t : Segments) (new : Segment) (k : ℕ) → AreSegments s → IsMade s t new → new.numbers.items ≡ k ∷ [] → Gained k new.start new.end s t
make-gained s t new k w p n = λ a.
    let some : 0 < length s.segments.items = made-some w p
    in elim (cases_between new.start new.end a) [
      | inl m ↦
          let now : numbers_at t a ≡ k ∷ []
          = ap (λ x. numbers_of_segment (slice_get t.segments.items x)) (Relabelled-inside _ _ new.start new.end _ a p.labels m.0 m.1)
          ∙ ap (λ (gs : List Segment). numbers_of_segment (slice_get gs (length s.segments.items))) p.segments ∙ ap numbers_of_segment (slice_get-push_at s.segments.items new) ∙ n
          in let before : numbers_at s a ≡ [] = ap (λ x. numbers_of_segment (slice_get s.segments.items x)) (p.unaltered a m.0 m.1) ∙ w.unaltered
          in now ∙ sym (ap (with_number k) before) ∙ sym (cond-true _ (with_number k (numbers_at s a)) (numbers_at s a) (is_between-inside new.start new.end a m.0 m.1))
      | inr m ↦
          ap (λ x. numbers_of_segment (slice_get t.segments.items x)) (Relabelled-outside _ _ new.start new.end _ a p.labels m)
          ∙ ap (λ (gs : List Segment). numbers_of_segment (slice_get gs (label s a))) p.segments ∙ ap numbers_of_segment (slice_get-push_below s.segments.items new (label s a) (label-below s a w some))
          ∙ sym (cond-false _ (with_number k (numbers_at s a)) (numbers_at s a) (is_between-outside new.start new.end a m))
    ]

pub make-cut : (s t : Segments) (new : Segment) → AreSegments s → IsMade s t new → IsCut t new.end
make-cut s t new w p = λ j g l h. elim (cases_made j g p h) [
  | inl e ↦ rw e.1 (inr (omega arith))
  | inr e ↦ elim (cases_lt g.start new.end) [
    | inl m ↦ elim (cases_lt new.end g.end) [
      | inl b ↦
          let last : new.end - 1 + 1 ≡ new.end = omega (arith, p.some)
          in absurd (omega (arith, l, (w.whole j g l e).has (new.end - 1) (omega (arith, m, last)) (omega (arith, b, last)), p.unaltered (new.end - 1) (omega (arith, p.some, last)) (omega (arith, last))))
      | inr b ↦ inr b
    ]
    | inr m ↦ inl m
  ]
]

pub make-cuts : (s t : Segments) (new : Segment) (at : ℕ) → IsMade s t new → new.end ≤ at → IsCut s at → IsCut t at
make-cuts s t new at p m c = λ j g l h. elim (cases_made j g p h) [
  | inl e ↦ rw e.1 (inr m)
  | inr e ↦ c j g l e
]

-- the bytes from one on that no change has altered: there is one at least
pub past-first : (labels : List ℕ) (start end past : ℕ) → start < end → end ≤ length labels → slice_index_or labels start 0 ≡ 0 → start ≤ past → (past ≡ end) ⊎ (slice_get labels past ≢ Some 0) → start < past
past-first labels start end past l m z f h = elim (cases_eq past start) [
  | inl e ↦ elim h [
    | inl g ↦ omega (arith, g, l)
    | inr n ↦ absurd (n (ap (slice_get labels) e ∙ slice_get-get_or labels start 0 (omega (arith, l, m)) ∙ ap Some z))
  ]
  | inr n ↦ omega (arith, f, n)
]

-- the numbers of a segment are others, and it has the same bytes
pub record IsRenumbered (s t : Segments) (i : ℕ) (g h : Segment) : Type 0 where
  pub some : 0 < i
  pub is : slice_get s.segments.items i ≡ Some g
  pub labels : t.labels.items ≡ s.labels.items
  pub segments : t.segments.items ≡ set s.segments.items i h
  pub start : h.start ≡ g.start
  pub last : h.end ≡ g.end

same-label : {s t : Segments} {i : ℕ} {g h : Segment} (a : ℕ) → IsRenumbered s t i g h → label t a ≡ label s a
same-label a p = ap (λ (xs : List ℕ). slice_index_or xs a 0) p.labels

same-segment : {s t : Segments} {i : ℕ} {g h : Segment} (j : ℕ) (k l : Segment) → IsRenumbered s t i g h → IsSegment s j k → l.start ≡ k.start → l.end ≡ k.end → IsSegment t j l
same-segment j k l p is b e =
    let long = ap (λ (xs : List ℕ). length xs) p.labels
    in record {
      some = omega (arith, is.some, b, e);
      inside = omega (arith, is.inside, e, long);
      has = λ a m n. same-label a p ∙ is.has a (omega (arith, m, b)) (omega (arith, n, e));
      all = λ a m. let inside = is.all a (sym (same-label a p) ∙ m) in (omega (arith, inside.0, b), omega (arith, inside.1, e));
    }

cases_renumber : {s t : Segments} {i : ℕ} {g h : Segment} (j : ℕ) (k : Segment) → IsRenumbered s t i g h → slice_get t.segments.items j ≡ Some k
    → ((j ≡ i) × (k ≡ h)) ⊎ ((j ≢ i) × (slice_get s.segments.items j ≡ Some k))
cases_renumber {s} {t} {i} {g} {h} j k p e =
    cases_set s.segments.items i j h k (slice_get_within s.segments.items i g p.is) (sym (ap (λ (gs : List Segment). slice_get gs j) p.segments) ∙ e)

pub renumber-whole : (s t : Segments) (i : ℕ) (g h : Segment) → AreSegments s → IsRenumbered s t i g h → AreSegments t
renumber-whole s t i g h w p =
    let count : length t.segments.items ≡ length s.segments.items = ap (λ (gs : List Segment). length gs) p.segments ∙ length-set s.segments.items i h
    in record {
      few = omega (arith, w.few, ap (λ (xs : List ℕ). length xs) p.labels);
      labelled = λ a l. omega (arith, same-label a p, count, w.labelled a (omega (arith, l, ap (λ (xs : List ℕ). length xs) p.labels)));
      unaltered =
          ap numbers_of_segment (ap (λ (gs : List Segment). slice_get gs 0) p.segments ∙ slice_get-set_other s.segments.items i 0 h (let n : 0 ≢ i = omega (arith, p.some) in n)) ∙ w.unaltered;
      whole = λ j k l e. elim (cases_renumber j k p e) [
        | inl m ↦ rw (m.0, m.1) (same-segment i g h p (w.whole i g p.some p.is) p.start p.last)
        | inr m ↦ same-segment j k k p (w.whole j k l m.1) refl refl
      ];
    }

pub renumber-cuts : (s t : Segments) (i : ℕ) (g h : Segment) → IsRenumbered s t i g h → KeepsCuts s t
renumber-cuts s t i g h p = λ at c j k l e. elim (cases_renumber j k p e) [
  | inl m ↦ rw m.1 (elim (c i g p.some p.is) [ inl n ↦ inl (omega (arith, n, p.start)) | inr n ↦ inr (omega (arith, n, p.last)) ])
  | inr m ↦ c j k l m.1
]

renumber-here : {s t : Segments} {i : ℕ} {g h : Segment} (a : ℕ) → IsRenumbered s t i g h → label s a ≡ i → (numbers_at t a ≡ h.numbers.items) × (numbers_at s a ≡ g.numbers.items)
renumber-here {s} {t} {i} {g} {h} a p l = (
  ap (λ x. numbers_of_segment (slice_get t.segments.items x)) (same-label a p ∙ l) ∙ ap (λ (gs : List Segment). numbers_of_segment (slice_get gs i)) p.segments
      ∙ ap numbers_of_segment (slice_get-set_at s.segments.items i h (slice_get_within s.segments.items i g p.is)),
  ap (λ x. numbers_of_segment (slice_get s.segments.items x)) l ∙ ap numbers_of_segment p.is,
)

renumber-there : {s t : Segments} {i : ℕ} {g h : Segment} (a : ℕ) → IsRenumbered s t i g h → label s a ≢ i → numbers_at t a ≡ numbers_at s a
renumber-there {s} {t} {i} {g} {h} a p n =
    ap (λ x. numbers_of_segment (slice_get t.segments.items x)) (same-label a p) ∙ ap (λ (gs : List Segment). numbers_of_segment (slice_get gs (label s a))) p.segments
    ∙ ap numbers_of_segment (slice_get-set_other s.segments.items i (label s a) h n)

pub renumber-same : (s t : Segments) (i : ℕ) (g h : Segment) → IsRenumbered s t i g h → h.numbers.items ≡ g.numbers.items → KeepsNumbers s t
renumber-same s t i g h p e = λ a. elim (cases_eq (label s a) i) [
  | inl l ↦ let both = renumber-here a p l in both.0 ∙ e ∙ sym both.1
  | inr n ↦ renumber-there a p n
]

-- the bytes before it and behind it keep their numbers
pub renumber-outside : (s t : Segments) (at i : ℕ) (g h : Segment) (a : ℕ) → IsSegmentOf s at i g → IsRenumbered s t i g h → (a < g.start) ⊎ (g.end ≤ a) → numbers_at t a ≡ numbers_at s a
renumber-outside s t at i g h a is p o = renumber-there a p (λ l. let inside = is.segment.all a l in omega (arith, inside.0, inside.1, o))

-- where no segment goes on from before the byte to behind it, it is the first of its segment
pub first-of : (s : Segments) (at i : ℕ) (g : Segment) → IsSegmentOf s at i g → IsCut s at → g.start ≡ at
first-of s at i g is c = omega (arith, is.first, is.last, c i g is.some is.is)

-- all bytes of a segment, from a first one on, have a number at their end then
pub renumber-gained : (s t : Segments) (at i : ℕ) (g h : Segment) (k : ℕ) → IsSegmentOf s at i g → IsRenumbered s t i g h → IsCut s at → h.numbers.items ≡ with_number k g.numbers.items → Gained k at g.end s t
renumber-gained s t at i g h k is p c e = λ a.
    let start : g.start ≡ at = first-of s at i g is c
    in elim (cases_between at g.end a) [
      | inl m ↦
          let both = renumber-here a p (is.segment.has a (omega (arith, start, m.0)) m.1)
          in both.0 ∙ e ∙ sym (ap (with_number k) both.1) ∙ sym (cond-true _ (with_number k (numbers_at s a)) (numbers_at s a) (is_between-inside at g.end a m.0 m.1))
      | inr m ↦
          renumber-outside s t at i g h a is p (elim m [ inl n ↦ inl (omega (arith, start, n)) | inr n ↦ inr n ])
          ∙ sym (cond-false _ (with_number k (numbers_at s a)) (numbers_at s a) (is_between-outside at g.end a m))
    ]

-- all bytes of a segment have a number no more at their end then
pub renumber-lost : (s t : Segments) (at i : ℕ) (g h : Segment) (k : ℕ) → IsSegmentOf s at i g → IsRenumbered s t i g h → h.numbers.items ≡ without_number k g.numbers.items → Lost k at g.end s t
renumber-lost s t at i g h k is p e =
    let here : (a : ℕ) → label s a ≡ i → numbers_at t a ≡ without_number k (numbers_at s a)
    = λ a l. let both = renumber-here a p l in both.0 ∙ e ∙ sym (ap (without_number k) both.1)
    in record {
      each = λ a. elim (cases_eq (label s a) i) [ inl l ↦ inr (here a l) | inr n ↦ inl (renumber-there a p n) ];
      inside = λ a m. let both = inside-is_between at g.end a m in here a (is.segment.has a (omega (arith, is.first, both.0)) both.1);
    }

-- no segment goes on from before the end of one to behind it
pub cut-behind : (s : Segments) (at i : ℕ) (g : Segment) → AreSegments s → IsSegmentOf s at i g → IsCut s g.end
cut-behind s at i g w is = λ j h l e.
    let some : g.start < g.end = is.segment.some
    in let last : g.end - 1 + 1 ≡ g.end = omega (arith, some)
    in elim (cases_lt h.start g.end) [
      | inl m ↦ elim (cases_lt g.end h.end) [
        | inl n ↦
            let here : label s (g.end - 1) ≡ i = is.segment.has (g.end - 1) (omega (arith, some, last)) (omega (arith, last))
            in let there : label s g.end ≡ j = (w.whole j h l e).has g.end (omega (arith, m)) n
            in let same : label s (g.end - 1) ≡ j = (w.whole j h l e).has (g.end - 1) (omega (arith, m, last)) (omega (arith, n, last))
            in absurd (omega (arith, (is.segment.all g.end (there ∙ sym same ∙ here)).1))
        | inr n ↦ inr n
      ]
      | inr m ↦ inl m
    ]

-- no bytes have a number
pub Gained-none : (s t : Segments) (k start : ℕ) → KeepsNumbers s t → Gained k start start s t
Gained-none s t k start e = λ a.
    let outside : (a < start) ⊎ (start ≤ a) = cases_lt a start
    in e a ∙ sym (cond-false _ (with_number k (numbers_at s a)) (numbers_at s a) (is_between-outside start start a outside))

-- bytes have a number no more, and then those that follow them
pub Lost-none : (s t : Segments) (k start : ℕ) → KeepsNumbers s t → Lost k start start s t
Lost-none s t k start e = record {
  each = λ a. inl (e a);
  inside = λ a h. let both = inside-is_between start start a h in absurd (omega (arith, both.0, both.1));
}

pub Lost-first : (s t u : Segments) (k start end : ℕ) → KeepsNumbers s t → Lost k start end t u → Lost k start end s u
Lost-first s t u k start end e l = record {
  each = λ a. elim (l.each a) [ inl h ↦ inl (h ∙ e a) | inr h ↦ inr (h ∙ ap (without_number k) (e a)) ];
  inside = λ a h. l.inside a h ∙ ap (without_number k) (e a);
}

pub Lost-more : (s t u : Segments) (k start mid end : ℕ) → Lost k start mid s t → KeepsNumbersFrom mid s t → Lost k mid end t u → KeepsNumbersBefore mid t u → Lost k start end s u
Lost-more s t u k start mid end l from m before = record {
  each = λ a. elim (cases_lt a mid) [
    | inl b ↦ elim (l.each a) [ inl h ↦ inl (before a b ∙ h) | inr h ↦ inr (before a b ∙ h) ]
    | inr b ↦ elim (m.each a) [ inl h ↦ inl (h ∙ from a b) | inr h ↦ inr (h ∙ ap (without_number k) (from a b)) ]
  ];
  inside = λ a h.
      let both = inside-is_between start end a h
      in elim (cases_lt a mid) [
        | inl b ↦ before a b ∙ l.inside a (is_between-inside start mid a both.0 b)
        | inr b ↦ m.inside a (is_between-inside mid end a b both.1) ∙ ap (without_number k) (from a b)
      ];
}

pub Lost-less : (s t : Segments) (k start mid end : ℕ) → mid ≤ end → Lost k start end s t → Lost k start mid s t
Lost-less s t k start mid end m l = record {
  each = l.each;
  inside = λ a h. let both = inside-is_between start mid a h in l.inside a (is_between-inside start end a both.0 (omega (arith, both.1, m)));
}

-- ---- a copy

-- a segment of it, and what it was made from
same-at : (gs hs : List Segment) (i : ℕ) (h : Segment) → AllZip IsSameSegment gs hs → slice_get hs i ≡ Some h → (g : Segment) × (slice_get gs i ≡ Some g) × IsSameSegment g h
same-at [] [] i h z there = absurd (cc)
same-at [] (k ∷ hs) i h z there = absurd z
same-at (g ∷ gs) [] i h z there = absurd z
same-at (g ∷ gs) (k ∷ hs) zero h z there = (g, refl, subst (λ (x : Segment). IsSameSegment g x) (same_Some k h there) z.0)
same-at (g ∷ gs) (k ∷ hs) (suc i) h z there = same-at gs hs i h z.1 there

numbers-same : (gs hs : List Segment) (i : ℕ) → AllZip IsSameSegment gs hs → numbers_of_segment (slice_get hs i) ≡ numbers_of_segment (slice_get gs i)
numbers-same [] [] i z = refl
numbers-same [] (h ∷ hs) i z = absurd z
numbers-same (g ∷ gs) [] i z = absurd z
numbers-same (g ∷ gs) (h ∷ hs) zero z = z.0.numbers
numbers-same (g ∷ gs) (h ∷ hs) (suc i) z = numbers-same gs hs i z.1

label-copied : (s t : Segments) (a : ℕ) → t.labels.items ≡ s.labels.items → label t a ≡ label s a
label-copied s t a labels = ap (λ ls. slice_index_or ls a 0) labels

pub KeepsNumbers-copied : (s t : Segments) → t.labels.items ≡ s.labels.items → AllZip IsSameSegment s.segments.items t.segments.items → KeepsNumbers s t
KeepsNumbers-copied s t labels z a =
    ap (λ l. numbers_of_segment (slice_get t.segments.items l)) (label-copied s t a labels) ∙ numbers-same s.segments.items t.segments.items (label s a) z

pub AreSegments-copied : (s t : Segments) → t.labels.items ≡ s.labels.items → AllZip IsSameSegment s.segments.items t.segments.items → AreSegments s → AreSegments t
AreSegments-copied s t labels z whole =
    let long : length t.labels.items ≡ length s.labels.items = ap (λ ls. length ls) labels
    in record {
      few = omega (arith, whole.few, long);
      labelled = λ a l.
          omega (arith, whole.labelled a (omega (arith, l, long)), label-copied s t a labels, length_all_zip IsSameSegment s.segments.items t.segments.items z);
      unaltered = numbers-same s.segments.items t.segments.items 0 z ∙ whole.unaltered;
      whole = λ i h some there.
          let from : (g : Segment) × (slice_get s.segments.items i ≡ Some g) × IsSameSegment g h = same-at s.segments.items t.segments.items i h z there
          in let p : IsSegment s i from.0 = whole.whole i from.0 some from.1
          in let start : h.start ≡ from.0.start = from.2.start
          in let end : h.end ≡ from.0.end = from.2.end
          in record {
            some = omega (arith, p.some, start, end);
            inside = omega (arith, p.inside, end, long);
            has = λ a low high. label-copied s t a labels ∙ p.has a (omega (arith, low, start)) (omega (arith, high, end));
            all = λ a at. let q : (from.0.start ≤ a) × (a < from.0.end) = p.all a (sym (label-copied s t a labels) ∙ at) in (omega (arith, q.0, start), omega (arith, q.1, end));
          };
    }
