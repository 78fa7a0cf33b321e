-- Events, each in a byte with what it carries in lists apart.
use Rattle.std.proofs.Common.{◌≡◌, ◌-◌, ◌++◌, ◌∙◌, List, [], ◌∷◌, Some, None, refl, ap, arith, length, reverse, slice_get}
use Rattle.std.proofs.lemmas.List.{length-append, reverse-append}
use Rattle.s360_word.specs.declared.unit.Unit.{Unit as UnitAddress}
use Rattle.s360_machine.specs.declared.event.Event.{Event}
use Rattle.s360_journal.specs.declared.noted.Tag.{Tag}
use Rattle.s360_journal.specs.declared.noted.Tag.TheVariants.{Cpu as cpu, Channel as channel, Tick as tick, Load as load, Other as other}
use Rattle.s360_journal.specs.Events.{AreEvents, events_of}
use Rattle.s360_journal.specs.Noted.{event_of_tag}

-- the nearest of them
pub first_of_events : (ts : List Tag) (us : List UnitAddress) (os : List Event) → AreEvents ts us os
    → event_of_tag (slice_get ts 0) (slice_get us 0) (slice_get os 0) ≡ slice_get (events_of ts us os) 0
first_of_events (channel ∷ ts) [] os h = absurd h
first_of_events (load ∷ ts) [] os h = absurd h
first_of_events (other ∷ ts) us [] h = absurd h
first_of_events ts us os h = refl

-- as many as bytes
pub length_of_events : (ts : List Tag) (us : List UnitAddress) (os : List Event) → AreEvents ts us os → length (events_of ts us os) ≡ length ts
length_of_events [] us os h = refl
length_of_events (cpu ∷ ts) us os h = omega (arith, length_of_events ts us os h)
length_of_events (tick ∷ ts) us os h = omega (arith, length_of_events ts us os h)
length_of_events (channel ∷ ts) [] os h = absurd h
length_of_events (channel ∷ ts) (u ∷ us) os h = omega (arith, length_of_events ts us os h)
length_of_events (load ∷ ts) [] os h = absurd h
length_of_events (load ∷ ts) (u ∷ us) os h = omega (arith, length_of_events ts us os h)
length_of_events (other ∷ ts) us [] h = absurd h
length_of_events (other ∷ ts) us (e ∷ os) h = omega (arith, length_of_events ts us os h.1)

last-there : {X : Type 0} (xs : List X) (x : X) → slice_get (xs ++ x ∷ []) (length xs) ≡ Some x
last-there [] x = refl
last-there (y ∷ xs) x = last-there xs x

-- the last of a list is the first from behind
pub last_is_first : {X : Type 0} (xs : List X) → slice_get (reverse xs) (length (reverse xs) - 1) ≡ slice_get xs 0
last_is_first [] = refl
last_is_first (x ∷ xs) =
    let turned : reverse (x ∷ xs) ≡ reverse xs ++ x ∷ [] = reverse-append (x ∷ []) xs
    in let last : length (reverse xs ++ x ∷ []) - 1 ≡ length (reverse xs) = omega (arith, length-append (reverse xs) (x ∷ []))
    in ap (λ l. slice_get l (length l - 1)) turned ∙ ap (λ n. slice_get (reverse xs ++ x ∷ []) n) last ∙ last-there (reverse xs) x

-- a list without a first
pub none_there : {X : Type 0} (xs : List X) → None ≡ slice_get xs 0 → xs ≡ []
none_there [] h = refl
none_there (x ∷ xs) h = absurd (let no : None ≡ Some x = h in cc)

cons_is_some : {X : Type 0} {x : X} {xs : List X} → x ∷ xs ≡ [] → ⊥
cons_is_some h = cc

-- no event has nothing in the lists
pub none_of_events : (ts : List Tag) (us : List UnitAddress) (os : List Event) → AreEvents ts us os → events_of ts us os ≡ []
    → (ts ≡ []) × (us ≡ []) × (os ≡ [])
none_of_events [] us os h none = (refl, h.0, h.1)
none_of_events (channel ∷ ts) [] os h none = absurd h
none_of_events (load ∷ ts) [] os h none = absurd h
none_of_events (other ∷ ts) us [] h none = absurd h
none_of_events ts us os h none = absurd (cons_is_some none)
