-- A session's machine is its start with the standing events run again.
use Rattle.std.proofs.Common.{arith, ◌+◌, ◌≡◌, ◌-◌, ◌++◌, ℕ, zero, suc, length, List, [], ◌∷◌, refl, ap, sym, ◌∙◌, map, reverse, subst, Option, Some, None, Ok, slice_get}
use Rattle.std.proofs.lemmas.List.{reverse-append, reverse-reverse, map_push, length-append}
use Rattle.s360_machine.specs.declared.event.Event.{Event}
use Rattle.s360_machine.specs.declared.refusal.Refusal.{Refusal}
use Rattle.s360_machine.specs.Machine.{Machine, Whole, storage_size, seen}
use Rattle.s360_machine.specs.Refusals.{refusal_of}
use Rattle.s360_machine.specs.Step.{step_to, step, after}
use Rattle.s360_machine.specs.Change.{Change, CanSwap, NeedsNoRoom, after_swap, change_after_swap, places_of_change}
use Rattle.s360_machine.proofs.SwapLemmas.{places_of_change-after_swap}
use Rattle.s360_machine.specs.Differences.{differences}
use Rattle.s360_journal.specs.Rerun.{rerun, AreAccepted}
use Rattle.s360_journal.specs.Standing.{Standing, IsAfter, machine_of, alteration}
use Rattle.s360_journal.specs.History.{Entry, unwound, IsHistory}

-- what an event that steps says
pub record IsStep (m : Machine) (e : Event) (n : Machine) : Type 0 where
  pub accepted : refusal_of (storage_size m) e ≡ None
  pub leads : after m e ≡ n

step_to-Ok : (o : Option Refusal) (k n : Machine) → step_to o k ≡ Ok n → (o ≡ None) × (k ≡ n)
step_to-Ok (Some r) k n h = cc
step_to-Ok None k n h = (refl, cc)

pub IsStep-from : (m : Machine) (e : Event) (n : Machine) → step m e ≡ Ok n → IsStep m e n
IsStep-from m e n h =
    let parts : (refusal_of (storage_size m) e ≡ None) × (after m e ≡ n) = step_to-Ok (refusal_of (storage_size m) e) (after m e) n h
    in record { accepted = parts.0; leads = parts.1 }

pub step-Ok : (m : Machine) (e : Event) → refusal_of (storage_size m) e ≡ None → step m e ≡ Ok (after m e)
step-Ok m e a = ap (λ o. step_to o (after m e)) a

-- one event more
pub rerun-push : (m : Machine) (es : List Event) (e : Event) → rerun m (es ++ e ∷ []) ≡ after (rerun m es) e
rerun-push m [] e = refl
rerun-push m (f ∷ es) e = rerun-push (after m f) es e

AreAccepted-push : (m : Machine) (es : List Event) (e : Event) → AreAccepted m es → step (rerun m es) e ≡ Ok (after (rerun m es) e) → AreAccepted m (es ++ e ∷ [])
AreAccepted-push m [] e h s = (s, tt)
AreAccepted-push m (f ∷ es) e h s = (h.0, AreAccepted-push (after m f) es e h.1 s)

pub events-newest : (x : Entry) (xs : List Entry) → map (λ (y : Entry). y.event) (reverse (x ∷ xs)) ≡ map (λ (y : Entry). y.event) (reverse xs) ++ x.event ∷ []
events-newest x xs = ap (λ l. map (λ (y : Entry). y.event) l) (reverse-append (x ∷ []) xs) ∙ map_push (λ (y : Entry). y.event) (reverse xs) x

-- the start with the events run again is the machine
pub rerun-newest : (w : Whole) (xs : List Entry) → IsHistory w xs → rerun (seen (unwound w xs)) (map (λ (x : Entry). x.event) (reverse xs)) ≡ seen w
rerun-newest w [] h = refl
rerun-newest w (x ∷ xs) h =
    let before : Whole = after_swap w x.changes
    in let one : IsStep (seen before) x.event (seen w) = IsStep-from (seen before) x.event (seen w) h.2
    in ap (λ l. rerun (seen (unwound before xs)) l) (events-newest x xs)
    ∙ rerun-push (seen (unwound before xs)) (map (λ (y : Entry). y.event) (reverse xs)) x.event
    ∙ ap (λ n. after n x.event) (rerun-newest before xs h.4)
    ∙ one.leads

AreAccepted-newest : (w : Whole) (xs : List Entry) → IsHistory w xs → AreAccepted (seen (unwound w xs)) (map (λ (x : Entry). x.event) (reverse xs))
AreAccepted-newest w [] h = tt
AreAccepted-newest w (x ∷ xs) h =
    let before : Whole = after_swap w x.changes
    in let one : IsStep (seen before) x.event (seen w) = IsStep-from (seen before) x.event (seen w) h.2
    in let here : step (seen before) x.event ≡ Ok (after (seen before) x.event) = h.2 ∙ ap (λ n. Ok n) (sym one.leads)
    in rw (events-newest x xs) (AreAccepted-push (seen (unwound before xs)) (map (λ (y : Entry). y.event) (reverse xs)) x.event (AreAccepted-newest before xs h.4)
    (subst (λ n. step n x.event ≡ Ok (after n x.event)) (sym (rerun-newest before xs h.4)) here))

pub rerun-unwound : (w : Whole) (xs : List Entry) → IsHistory w (reverse xs) → rerun (seen (unwound w (reverse xs))) (map (λ (x : Entry). x.event) xs) ≡ seen w
rerun-unwound w xs h =
    ap (λ l. rerun (seen (unwound w (reverse xs))) (map (λ (x : Entry). x.event) l)) (sym (reverse-reverse xs)) ∙ rerun-newest w (reverse xs) h

pub AreAccepted-unwound : (w : Whole) (xs : List Entry) → IsHistory w (reverse xs) → AreAccepted (seen (unwound w (reverse xs))) (map (λ (x : Entry). x.event) xs)
AreAccepted-unwound w xs h =
    subst (λ l. AreAccepted (seen (unwound w (reverse xs))) (map (λ (x : Entry). x.event) l)) (reverse-reverse xs) (AreAccepted-newest w (reverse xs) h)

-- a change more, as its exchange left it
pub IsHistory-push : (w v : Whole) (xs : List Entry) (x : Entry) → IsHistory w xs → CanSwap v x.changes → NeedsNoRoom x.changes
    → after_swap v x.changes ≡ w → step (seen w) x.event ≡ Ok (seen v) → places_of_change x.changes ≡ differences (seen w) (seen v)
    → IsHistory v (x ∷ xs)
IsHistory-push w v xs x h can no_room back one places = (
  can,
  no_room,
  subst (λ k. step (seen k) x.event ≡ Ok (seen v)) (sym back) one,
  subst (λ k. places_of_change x.changes ≡ differences (seen k) (seen v)) (sym back) places,
  subst (λ k. IsHistory k xs) (sym back) h,
)

pub places_of_change-after : (w : Whole) (x : Change) → places_of_change (change_after_swap w x) ≡ places_of_change x
places_of_change-after w x = places_of_change-after_swap w x

-- the machine that is seen of a session's whole is the one that its contracts speak of
pub machine_of-view : (w : Whole) (xs : List Entry) (limit : ℕ) (s : Standing) → IsHistory w (reverse xs)
    → record { start = unwound w (reverse xs); events = map (λ (x : Entry). x.event) xs; limit = limit } ≡ s → seen w ≡ machine_of s
machine_of-view w xs limit s h e = sym (rerun-unwound w xs h) ∙ ap (λ t. machine_of t) e

-- the last of a list that is not empty
last-at : {X : Type 0} (xs : List X) (n : ℕ) (x : X) → n + 1 ≡ length xs → slice_get xs n ≡ Some x → (ys : List X) × (xs ≡ ys ++ x ∷ [])
last-at (y ∷ []) zero x l h = let same : y ≡ x = cc in ([], ap (λ z. z ∷ []) same)
last-at (y ∷ z ∷ zs) (suc n) x l h =
    let more : (ys : List _) × (z ∷ zs ≡ ys ++ x ∷ []) = last-at (z ∷ zs) n x (omega (arith, l)) h
    in (y ∷ more.0, ap (λ l. y ∷ l) more.1)
last-at xs n x l h = absurd (omega (arith, l))

pub last-split : {X : Type 0} (xs : List X) (x : X) → slice_get xs (length xs - 1) ≡ Some x → (ys : List X) × (xs ≡ ys ++ x ∷ [])
last-split [] x h = absurd (cc)
last-split (y ∷ ys) x h = last-at (y ∷ ys) (length (y ∷ ys) - 1) x (omega arith) h

-- lists with one more at their ends
push-same : (es fs : List Event) (e f : Event) → es ++ e ∷ [] ≡ fs ++ f ∷ [] → (es ≡ fs) × (e ≡ f)
push-same [] [] e f h = (refl, cc)
push-same [] (g ∷ gs) e f h = absurd (omega (arith, ap (λ (l : List Event). length l) h, length-append gs (f ∷ [])))
push-same (g ∷ gs) [] e f h = absurd (omega (arith, ap (λ (l : List Event). length l) h, length-append gs (e ∷ [])))
push-same (g ∷ gs) (k ∷ ks) e f h =
    let rest : (gs ≡ ks) × (e ≡ f) = push-same gs ks e f (cc)
    in let first : g ≡ k = cc
    in (ap (λ l. g ∷ l) rest.0 ∙ ap (λ x. x ∷ ks) first, rest.1)

-- what the newest entry alters
alteration-newest : (w : Whole) (xs : List Entry) (x : Entry) (s : Standing) (e : Event) → IsHistory w (x ∷ reverse xs)
    → unwound w (x ∷ reverse xs) ≡ s.start → map (λ (y : Entry). y.event) (xs ++ x ∷ []) ≡ s.events ++ e ∷ []
    → places_of_change x.changes ≡ alteration s e
alteration-newest w xs x s e h start events =
    let before : Whole = after_swap w x.changes
    in let one : IsStep (seen before) x.event (seen w) = IsStep-from (seen before) x.event (seen w) h.2
    in let same : (map (λ (y : Entry). y.event) xs ≡ s.events) × (x.event ≡ e)
    = push-same (map (λ (y : Entry). y.event) xs) s.events x.event e (sym (map_push (λ (y : Entry). y.event) xs x) ∙ events)
    in let here : seen before ≡ machine_of s
    = sym (rerun-unwound before xs h.4) ∙ ap (λ es. rerun (seen (unwound before (reverse xs))) es) same.0 ∙ ap (λ (k : Whole). rerun (seen k) s.events) start
    in h.3 ∙ ap (λ n. differences (seen before) n) (sym one.leads) ∙ ap (λ (m : Machine). differences m (after m x.event)) here
    ∙ ap (λ f. differences (machine_of s) (after (machine_of s) f)) same.1

-- what the last entry of a session alters, where it stands after another
pub alteration-last : (w : Whole) (xs : List Entry) (x : Entry) (limit : ℕ) (t s : Standing) (e : Event) → IsHistory w (reverse xs)
    → record { start = unwound w (reverse xs); events = map (λ (y : Entry). y.event) xs; limit = limit } ≡ t
    → Some x ≡ slice_get xs (length xs - 1) → IsAfter t s e → places_of_change x.changes ≡ alteration s e
alteration-last w xs x limit t s e h view last is =
    let split : (ys : List Entry) × (xs ≡ ys ++ x ∷ []) = last-split xs x (sym last)
    in let newest : reverse xs ≡ x ∷ reverse split.0 = ap (λ (zs : List Entry). reverse zs) split.1 ∙ reverse-append split.0 (x ∷ [])
    in let start : unwound w (reverse xs) ≡ s.start = ap (λ (k : Standing). k.start) (view ∙ is)
    in let events : map (λ (y : Entry). y.event) xs ≡ s.events ++ e ∷ [] = ap (λ (k : Standing). k.events) (view ∙ is)
    in alteration-newest w split.0 x s e (subst (λ (zs : List Entry). IsHistory w zs) newest h) (rw newest at start) (rw split.1 at events)
