-- The places of ascending cells that alter them are those at which the cores differ.
use Rattle.std.proofs.Common.{◌≡◌, ◌≢◌, ◌<◌, ◌≤◌, ◌+◌, ◌++◌, ℕ, List, [], ◌∷◌, refl, ap, sym, ◌∙◌, ◌⊎◌, inl, inr, arith, map, length, Bool, true, false, not, nat_eq, eqb-true, eq-eqb}
use Rattle.std.specs.List.{range_with_len}
use Rattle.s360_model.specs.Core.{Core}
use Rattle.s360_store.specs.declared.place.Place.{Place}
use Rattle.s360_store.specs.declared.place.Place.TheVariants.{Psw, Register, Byte, Key}
use Rattle.s360_store.specs.declared.place.Cell.{Cell}
use Rattle.s360_store.specs.Places.{same_place, value_at, with_value, IsPlaceOf}
use Rattle.s360_store.specs.Cells.{after_exchange, IsFresh, AreCellsOf, AllDiffer, places_of_cells}
use Rattle.s360_store.specs.Order.{kind_of, IsAscending}
use Rattle.s360_store.specs.Differences.{places_of, core_differences}
use Rattle.s360_store.proofs.AscendingLemmas.{Among, IsKind, IsAscending-append, IsAscending-range, IsBeforeAll-kind, IsBeforeAll-append, Among-append_left, Among-append_right, Among-range, range-Among, same_ascending, IsAscending-filter, Among-filter, Among-filtered}
use Rattle.s360_store.proofs.PlaceLemmas.{value_at-same, value_at-other, IsPlaceOf-before}
use Rattle.s360_store.proofs.PlanLemmas.{same_place-true, same_place-refl}
use Rattle.s360_store.proofs.ExchangeLemmas.{value_at-after_exchange, AreCellsOf-kept}

abbrev registers_are : IsKind (λ n. Register n) 1
registers_are = record { kind = λ n. refl; number = λ n. refl }

abbrev bytes_are : IsKind (λ n. Byte n) 2
bytes_are = record { kind = λ n. refl; number = λ n. refl }

abbrev keys_are : IsKind (λ n. Key n) 3
keys_are = record { kind = λ n. refl; number = λ n. refl }

abbrev registers_of : Core → List Place
registers_of m = map (λ n. Register n) (range_with_len 0 (length m.registers))

abbrev bytes_of : Core → List Place
bytes_of m = map (λ a. Byte a) (range_with_len 0 (length m.storage.bytes))

abbrev keys_of : Core → List Place
keys_of m = map (λ b. Key b) (range_with_len 0 (length m.storage.keys))

kind_among : (f : ℕ → Place) (k : ℕ) (i : IsKind f k) (r : Place) (count : ℕ) → Among r (map f (range_with_len 0 count)) → kind_of r ≡ k
kind_among f k i r count a =
    let w : (n : ℕ) × (r ≡ f n) × (0 ≤ n) × (n < 0 + count) = Among-range f r 0 count a in ap kind_of w.1 ∙ i.kind w.0

pub IsAscending-places : (m : Core) → IsAscending (places_of m)
IsAscending-places m =
    let late : IsAscending (bytes_of m ++ keys_of m)
    = IsAscending-append (bytes_of m) (keys_of m) (IsAscending-range _ 2 bytes_are 0 _) (IsAscending-range _ 3 keys_are 0 _)
    (λ p a. let k : kind_of p ≡ 2 = kind_among _ 2 bytes_are p _ a in IsBeforeAll-kind _ 3 keys_are p 0 _ (omega arith))
    in let all : IsAscending (registers_of m ++ (bytes_of m ++ keys_of m))
    = IsAscending-append (registers_of m) (bytes_of m ++ keys_of m) (IsAscending-range _ 1 registers_are 0 _) late
    (λ p a. let k : kind_of p ≡ 1 = kind_among _ 1 registers_are p _ a
    in IsBeforeAll-append p (bytes_of m) (keys_of m) (IsBeforeAll-kind _ 2 bytes_are p 0 _ (omega arith)) (IsBeforeAll-kind _ 3 keys_are p 0 _ (omega arith)))
    in (
      IsBeforeAll-append Psw (registers_of m) (bytes_of m ++ keys_of m) (IsBeforeAll-kind _ 1 registers_are Psw 0 _ (omega arith))
          (IsBeforeAll-append Psw (bytes_of m) (keys_of m) (IsBeforeAll-kind _ 2 bytes_are Psw 0 _ (omega arith)) (IsBeforeAll-kind _ 3 keys_are Psw 0 _ (omega arith))),
      all,
    )

pub Among-places : (m : Core) (p : Place) → IsPlaceOf m p → Among p (places_of m)
Among-places m Psw h = inl refl
Among-places m (Register n) h = inr (Among-append_left (Register n) (registers_of m) (bytes_of m ++ keys_of m) (range-Among (λ i. Register i) n 0 (length m.registers) (omega arith) (omega arith)))
Among-places m (Byte n) h = inr (Among-append_right (Byte n) (registers_of m) (bytes_of m ++ keys_of m)
    (Among-append_left (Byte n) (bytes_of m) (keys_of m) (range-Among (λ i. Byte i) n 0 (length m.storage.bytes) (omega arith) (omega arith))))
Among-places m (Key n) h = inr (Among-append_right (Key n) (registers_of m) (bytes_of m ++ keys_of m)
    (Among-append_right (Key n) (bytes_of m) (keys_of m) (range-Among (λ i. Key i) n 0 (length m.storage.keys) (omega arith) (omega arith))))
Among-places m p h = absurd h

among_or_fresh : (p : Place) (cs : List Cell) → Among p (places_of_cells cs) ⊎ IsFresh p cs
among_or_fresh p [] = inr tt
among_or_fresh p (c ∷ cs) =
    let by : (b : Bool) → same_place p c.place ≡ b → Among p (places_of_cells (c ∷ cs)) ⊎ IsFresh p (c ∷ cs)
    = λ b. elim b as (λ x. same_place p c.place ≡ x → Among p (places_of_cells (c ∷ cs)) ⊎ IsFresh p (c ∷ cs)) [
      | true ↦ λ e. inl (inl (same_place-true p c.place e))
      | false ↦ λ e. elim (among_or_fresh p cs) [
        | inl a ↦ inl (inr a)
        | inr f ↦ inr ((λ s. let t : same_place p p ≡ true = same_place-refl p in let u : same_place p p ≡ false = rw (← s) at e in cc), f)
      ]
    ]
    in by (same_place p c.place) refl

AllDiffer-kept : (m : Core) (cs : List Cell) (p : Place) (v : ℕ) → IsFresh p cs → AllDiffer m cs → AllDiffer (with_value m p v) cs
AllDiffer-kept m [] p v f h = tt
AllDiffer-kept m (c ∷ cs) p v f h = (rw (value_at-other m p c.place v f.0) h.0, AllDiffer-kept m cs p v f.1 h.1)

fresh_apart : (p q : Place) (cs : List Cell) → IsFresh p cs → Among q (places_of_cells cs) → p ≢ q
fresh_apart p q [] f a = absurd a
fresh_apart p q (c ∷ cs) f (inl e) = λ s. f.0 (s ∙ e)
fresh_apart p q (c ∷ cs) f (inr a) = fresh_apart p q cs f.1 a

-- a listed place is one of the core, and differs
differs_at : (m : Core) (cs : List Cell) (p : Place) → AreCellsOf m cs → AllDiffer m cs → Among p (places_of_cells cs) → IsPlaceOf m p × (value_at m p ≢ value_at (after_exchange m cs) p)
differs_at m [] p h d a = absurd a
differs_at m (c ∷ cs) p h d (inl e) =
    let n : Core = with_value m c.place c.value
    in let v : value_at (after_exchange n cs) c.place ≡ c.value = value_at-after_exchange n cs c.place h.2 ∙ value_at-same m c.place c.value h.0
    in (rw e h.0, λ s. d.0 (let t : value_at m c.place ≡ value_at (after_exchange n cs) c.place = rw e at s in t ∙ v))
differs_at m (c ∷ cs) p h d (inr a) =
    let n : Core = with_value m c.place c.value
    in let apart : c.place ≢ p = fresh_apart c.place p cs h.2 a
    in let later : IsPlaceOf n p × (value_at n p ≢ value_at (after_exchange n cs) p)
    = differs_at n cs p (AreCellsOf-kept m cs c.place c.value h.3) (AllDiffer-kept m cs c.place c.value h.2 d.1) a
    in (IsPlaceOf-before m c.place p c.value later.0, λ s. later.1 (value_at-other m c.place p c.value apart ∙ s))

not_equal : (a b : ℕ) → a ≢ b → not (nat_eq a b) ≡ true
not_equal a b h =
    let by : (x : Bool) → nat_eq a b ≡ x → not x ≡ true = λ x. elim x as (λ y. nat_eq a b ≡ y → not y ≡ true) [ true ↦ λ e. absurd (h (eqb-true a b e)) | false ↦ λ e. refl ]
    in by (nat_eq a b) refl

apart_from : (a b : ℕ) → not (nat_eq a b) ≡ true → a ≢ b
apart_from a b h e = let t : nat_eq a b ≡ true = eq-eqb a b e in let u : not true ≡ true = rw t at h in cc

-- the places of ascending changes, each of which alters its place
pub places_of_cells-differences : (m : Core) (cs : List Cell) → AreCellsOf m cs → AllDiffer m cs → IsAscending (places_of_cells cs)
    → places_of_cells cs ≡ core_differences m (after_exchange m cs)
places_of_cells-differences m cs h d a =
    same_ascending (places_of_cells cs) (core_differences m (after_exchange m cs)) a (IsAscending-filter (λ p. not (nat_eq (value_at m p) (value_at (after_exchange m cs) p))) (places_of m) (IsAscending-places m))
    (λ r x. let w : IsPlaceOf m r × (value_at m r ≢ value_at (after_exchange m cs) r) = differs_at m cs r h d x
    in Among-filtered (λ p. not (nat_eq (value_at m p) (value_at (after_exchange m cs) p))) r (places_of m) (Among-places m r w.0) (not_equal _ _ w.1))
    (λ r x. let w : Among r (places_of m) × (not (nat_eq (value_at m r) (value_at (after_exchange m cs) r)) ≡ true)
    = Among-filter (λ p. not (nat_eq (value_at m p) (value_at (after_exchange m cs) p))) r (places_of m) x
    in elim (among_or_fresh r cs) [ inl y ↦ y | inr f ↦ absurd (apart_from _ _ w.1 (sym (value_at-after_exchange m cs r f))) ])
