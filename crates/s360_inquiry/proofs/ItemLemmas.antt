-- The last of the changes of a unit's media that alter an item.
use Rattle.std.proofs.Common.{◌≡◌, ◌<◌, ◌≤◌, ◌+◌, ◌-◌, ◌++◌, ℕ, Bool, true, false, List, [], ◌∷◌, Option, Some, None, ap, sym, ◌∙◌, refl, arith, length, length-take, min, take, get_or, if◌then◌else◌}
use Rattle.std.proofs.lemmas.List.{take_more}
use Rattle.s360_word.specs.declared.unit.Unit.{Unit}
use Rattle.s360_store.specs.declared.place.Place.{Place}
use Rattle.s360_store.specs.declared.place.Place.TheVariants.{UnitMedia}
use Rattle.s360_machine.specs.declared.event.Event.{Event}
use Rattle.s360_machine.specs.Machine.{Machine, seen}
use Rattle.s360_machine.specs.Step.{after}
use Rattle.s360_journal.specs.Rerun.{alters, altering_events_from, or_else}
use Rattle.s360_journal.specs.Recorded.{Recorded, standing_events}
use Rattle.s360_inquiry.specs.ItemChanges.{alters_item, last_change_of_item, last_that}
use Rattle.s360_inquiry.proofs.InquiryLemmas.{numbered-below}

-- one more number at the end, of which it holds or not
if-alone : (b : Bool) (x : ℕ) (o : Option ℕ) → or_else (if b then Some x else None) o ≡ (if b then Some x else o)
if-alone true x o = refl
if-alone false x o = refl

or-none : (o : Option ℕ) → or_else None o ≡ or_else o None
or-none None = refl
or-none (Some k) = refl

or-assoc : (o p q : Option ℕ) → or_else (or_else o p) q ≡ or_else o (or_else p q)
or-assoc None p q = refl
or-assoc (Some k) p q = refl

that-at-end : (holds : ℕ → Bool) (ys : List ℕ) (x : ℕ) → last_that holds (ys ++ x ∷ []) ≡ or_else (if holds x then Some x else None) (last_that holds ys)
that-at-end holds [] x = or-none (if holds x then Some x else None)
that-at-end holds (y ∷ ys) x =
    let this : Option ℕ = if holds y then Some y else None
    in ap (λ (o : Option ℕ). or_else o this) (that-at-end holds ys x)
    ∙ or-assoc (if holds x then Some x else None) (last_that holds ys) this

that-more : (holds : ℕ → Bool) (xs : List ℕ) (i d : ℕ) → i < length xs
    → last_that holds (take (i + 1) xs) ≡ (if holds (get_or xs i d) then Some (get_or xs i d) else last_that holds (take i xs))
that-more holds xs i d inside =
    ap (λ (ns : List ℕ). last_that holds ns) (take_more xs i d inside)
    ∙ that-at-end holds (take i xs) (get_or xs i d)
    ∙ if-alone (holds (get_or xs i d)) (get_or xs i d) (last_that holds (take i xs))

-- the last of the first ones: it holds of that one, or it is among those before
pub that-before : (holds : ℕ → Bool) (xs : List ℕ) (i n d : ℕ) → 0 < i → i ≤ length xs → n ≡ get_or xs (i - 1) d → holds n ≡ true
    → last_that holds (take i xs) ≡ Some n
that-before holds xs i n d some within is there =
    let one : i - 1 + 1 ≡ i = omega (arith, some)
    in ap (λ (k : ℕ). last_that holds (take k xs)) (sym one)
    ∙ that-more holds xs (i - 1) d (omega (arith, some, within))
    ∙ ap (λ (x : ℕ). if holds x then Some x else last_that holds (take (i - 1) xs)) (sym is)
    ∙ ap (λ (b : Bool). if b then Some n else last_that holds (take (i - 1) xs)) there

pub that-none : (holds : ℕ → Bool) (xs : List ℕ) (i n d : ℕ) → 0 < i → i ≤ length xs → n ≡ get_or xs (i - 1) d → holds n ≡ false
    → last_that holds (take i xs) ≡ last_that holds (take (i - 1) xs)
that-none holds xs i n d some within is not =
    let one : i - 1 + 1 ≡ i = omega (arith, some)
    in ap (λ (k : ℕ). last_that holds (take k xs)) (sym one)
    ∙ that-more holds xs (i - 1) d (omega (arith, some, within))
    ∙ ap (λ (x : ℕ). if holds x then Some x else last_that holds (take (i - 1) xs)) (sym is)
    ∙ ap (λ (b : Bool). if b then Some n else last_that holds (take (i - 1) xs)) not

-- ---- it is one that stands

within-if : (b : Bool) (holds : ℕ → Bool) (k n top : ℕ) (rest : List ℕ) → ((j : ℕ) → last_that holds rest ≡ Some j → j < top) → k < top
    → last_that holds (if b then k ∷ rest else rest) ≡ Some n → n < top
within-if true holds k n top rest later this h = numbered-below (last_that holds rest) (holds k) k n top later this h
within-if false holds k n top rest later this h = later n h

that-within : (holds : ℕ → Bool) (k : ℕ) (m : Machine) (es : List Event) (p : Place) (n : ℕ)
    → last_that holds (altering_events_from k m es p) ≡ Some n → n < k + length es
that-within holds k m [] p n h = absurd (cc)
that-within holds k m (e ∷ es) p n h =
    let top : k + 1 + length es ≡ k + length (e ∷ es) = omega arith
    in let later : (j : ℕ) → last_that holds (altering_events_from (k + 1) (after m e) es p) ≡ Some j → j < k + length (e ∷ es)
    = λ j is. omega (arith, top, that-within holds (k + 1) (after m e) es p j is)
    in within-if (alters m e p) holds k n (k + length (e ∷ es)) (altering_events_from (k + 1) (after m e) es p) later (omega arith) h

pub item-within : (r : Recorded) (unit : Unit) (item n : ℕ) → last_change_of_item r unit item ≡ Some n → min (n - 1) (length r.events) ≡ n - 1
item-within r unit item n h =
    omega (arith, that-within (alters_item r unit item) 1 (seen r.start) (standing_events r) (UnitMedia unit) n h, length-take r.standing r.events)
