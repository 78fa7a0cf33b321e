-- Whether the last change altered anything.
use Rattle.std.proofs.Common.{◌≡◌, ◌≤◌, ◌-◌, ◌++◌, ◌∙◌, ℕ, zero, suc, Bool, true, false, List, [], ◌∷◌, Option, Some, None, refl, ap, sym, arith, length, length-append, take, true≢false, slice_get, IsTrue, ◌↔◌}
use Rattle.s360_store.specs.declared.place.Place.{Place}
use Rattle.s360_machine.specs.declared.event.Event.{Event}
use Rattle.s360_journal.specs.Standing.{IsAfter, Standing, alteration, last_of}
use Rattle.s360_journal.proofs.SessionLemmas.{last-there}
use Rattle.s360_journal.specs.Recorded.{Recorded, session_of, standing_events, with_standing}
use Rattle.s360_remote.specs.Moving.{is_in_vain, was_in_vain}
use Rattle.s360_journal.proofs.AgainLemmas.{IsThere, there}

-- the last of some events, behind those before it
split-last : (n : ℕ) (es : List Event) (e : Event) → n ≤ length es → last_of (take n es) ≡ Some e → take n es ≡ take (n - 1) es ++ e ∷ []
split-last zero [] e h is = absurd (cc)
split-last zero (x ∷ es) e h is = absurd (cc)
split-last (suc k) es e h is =
    let one : IsThere es k = there k es (omega (arith, h))
    in let split : take (suc k) es ≡ take k es ++ one.event ∷ [] = one.one
    in let place : length (take k es ++ one.event ∷ []) - 1 ≡ length (take k es) = omega (arith, length-append (take k es) (one.event ∷ []))
    in let last : last_of (take (suc k) es) ≡ Some one.event
    = ap (λ l. last_of l) split ∙ ap (λ n. slice_get (take k es ++ one.event ∷ []) n) place ∙ last-there (take k es) one.event
    in let both : Some one.event ≡ Some e = sym last ∙ is
    in let same : one.event ≡ e = cc
    in let less : suc k - 1 ≡ k = omega arith
    in split ∙ ap (λ x. take k es ++ x ∷ []) same ∙ ap (λ n. take n es ++ e ∷ []) (sym less)

get-last : {X : Type 0} (x : X) (xs : List X) → (y : X) × (slice_get (x ∷ xs) (length xs) ≡ Some y)
get-last x [] = (x, refl)
get-last x (z ∷ xs) = get-last z xs

none-last : (es : List Event) → last_of es ≡ None → es ≡ []
none-last [] h = refl
none-last (e ∷ es) h =
    let place : length es ≡ length (e ∷ es) - 1 = omega arith
    in let some = get-last e es
    in let wrong : Some some.0 ≡ None = sym some.1 ∙ ap (λ n. slice_get (e ∷ es) n) place ∙ h
    in absurd (cc)

in-vain-by : (ps : List Place) (b : Bool) → IsTrue b ↔ (ps ≡ []) → b ≡ is_in_vain ps
in-vain-by [] true is = refl
in-vain-by [] false is = absurd (true≢false (sym (is.1 refl)))
in-vain-by (p ∷ ps) true is = absurd (let wrong : p ∷ ps ≡ [] = is.0 refl in cc)
in-vain-by (p ∷ ps) false is = refl

by-last : (r : Recorded) (b : Bool) (o : Option Event) → r.standing ≤ length r.events → last_of (standing_events r) ≡ o
    → ((s : Standing) (e : Event) → IsAfter (session_of r) s e → IsTrue b ↔ (alteration s e ≡ [])) → (standing_events r ≡ [] → IsTrue b) → b ≡ was_in_vain o r
by-last r b None within is last nothing = nothing (none-last (standing_events r) is)
by-last r b (Some e) within is last nothing =
    let split : standing_events r ≡ take (r.standing - 1) r.events ++ e ∷ [] = split-last r.standing r.events e within is
    in let after : IsAfter (session_of r) (session_of (with_standing r (r.standing - 1))) e = ap (λ l. record { start = r.start; events = l; limit = r.limit }) split
    in in-vain-by (alteration (session_of (with_standing r (r.standing - 1))) e) b (last (session_of (with_standing r (r.standing - 1))) e after)

pub in-vain-last : (r : Recorded) (b : Bool) → r.standing ≤ length r.events → ((s : Standing) (e : Event) → IsAfter (session_of r) s e → IsTrue b ↔ (alteration s e ≡ [])) → (standing_events r ≡ [] → IsTrue b)
    → b ≡ was_in_vain (last_of (standing_events r)) r
in-vain-last r b within last nothing = by-last r b (last_of (standing_events r)) within refl last nothing
