-- A change is withdrawn: the later ones are taken back, and all but the withdrawn one are run again.
use Rattle.std.proofs.Common.{◌≡◌, ◌-◌, ◌+◌, ◌<◌, ◌≤◌, ◌++◌, ◌∙◌, ℕ, List, [], ◌∷◌, refl, ap, sym, subst, append_assoc, arith, drop, length, length-append, map, reverse, take, Option, Some, None, Result, Ok, Err, IfOk, OnErr}
use Rattle.std.proofs.Math.Seq.{drop-append_seam, take-append_seam}
use Rattle.std.proofs.lemmas.List.{append-nil, length-reverse, length-set, reverse-append, reverse-reverse}
use Rattle.std.specs.Option.{option_map_or}
use Rattle.s360_model.specs.Core.{Core}
use Rattle.s360_store.specs.declared.place.Cell.{Cell}
use Rattle.s360_store.specs.declared.place.Place.{Place}
use Rattle.s360_store.specs.Cells.{after_exchange}
use Rattle.s360_store.specs.Places.{CorePlace, core_place_of, core_with_value, with_value}
use Rattle.s360_store.specs.Places.CorePlace.{psw, register, byte, key}
use Rattle.s360_machine.specs.declared.event.Event.{Event}
use Rattle.s360_machine.specs.Change.{Change, after_swap}
use Rattle.s360_machine.specs.Machine.{Machine, Whole, seen, storage_size}
use Rattle.s360_machine.specs.Refusals.{refusal_of}
use Rattle.s360_journal.specs.History.{AreHistory, Entry, IsHistory, entries_of, unwound}
use Rattle.s360_journal.specs.Offers.{with_events}
use Rattle.s360_journal.specs.Standing.{IsAfter, Standing, machine_of}
use Rattle.s360_journal.specs.Withdrawals.{AreAllowed, without_event}
use Rattle.s360_journal.specs.declared.session.NothingStands.{NothingStands}
use Rattle.s360_journal.proofs.HistoryLemmas.{IsStep, IsStep-from, events-newest}
use Rattle.s360_journal.proofs.SessionLemmas.{events-of, machine_of-session}

-- ---- no exchange alters the size of storage

size-with_value : (m : Core) (p : Place) (v : ℕ) → length (with_value m p v).storage.bytes ≡ length m.storage.bytes
size-with_value m p v =
    let by : (o : Option CorePlace) → length (option_map_or (λ q. core_with_value q v m) o m).storage.bytes ≡ length m.storage.bytes
    = λ o. elim o as (λ x. length (option_map_or (λ q. core_with_value q v m) x m).storage.bytes ≡ length m.storage.bytes) [
      | None ↦ refl
      | Some q ↦ elim q as (λ x. length (core_with_value x v m).storage.bytes ≡ length m.storage.bytes) [
        | psw ↦ refl
        | register n ↦ refl
        | byte a ↦ length-set m.storage.bytes a v
        | key b ↦ refl
      ]
    ]
    in by (core_place_of p)

size-after_exchange : (m : Core) (cs : List Cell) → length (after_exchange m cs).storage.bytes ≡ length m.storage.bytes
size-after_exchange m [] = refl
size-after_exchange m (c ∷ cs) = size-after_exchange (with_value m c.place c.value) cs ∙ size-with_value m c.place c.value

size-unwound : (w : Whole) (xs : List Entry) → storage_size (seen (unwound w xs)) ≡ storage_size (seen w)
size-unwound w [] = refl
size-unwound w (x ∷ xs) = size-unwound (after_swap w x.changes) xs ∙ size-after_exchange w.core x.changes.cells

pub size-session : (w : Whole) (es : List Event) (xs : List Change) (limit : ℕ) (s : Standing) → AreHistory w es xs
    → record { start = unwound w (reverse (entries_of es xs)); events = es; limit = limit } ≡ s → storage_size (machine_of s) ≡ storage_size (seen s.start)
size-session w es xs limit s h view =
    ap storage_size (sym (machine_of-session w es xs limit s h view)) ∙ sym (size-unwound w (reverse (entries_of es xs)))
    ∙ ap (λ (t : Standing). storage_size (seen t.start)) view

-- ---- nor whether fetches are protected

profile-with_value : (m : Core) (p : Place) (v : ℕ) → (with_value m p v).storage.fetch_protection ≡ m.storage.fetch_protection
profile-with_value m p v =
    let by : (o : Option CorePlace) → (option_map_or (λ q. core_with_value q v m) o m).storage.fetch_protection ≡ m.storage.fetch_protection
    = λ o. elim o as (λ x. (option_map_or (λ q. core_with_value q v m) x m).storage.fetch_protection ≡ m.storage.fetch_protection) [
      | None ↦ refl
      | Some q ↦ elim q as (λ x. (core_with_value x v m).storage.fetch_protection ≡ m.storage.fetch_protection) [
        | psw ↦ refl
        | register n ↦ refl
        | byte a ↦ refl
        | key b ↦ refl
      ]
    ]
    in by (core_place_of p)

profile-after_exchange : (m : Core) (cs : List Cell) → (after_exchange m cs).storage.fetch_protection ≡ m.storage.fetch_protection
profile-after_exchange m [] = refl
profile-after_exchange m (c ∷ cs) = profile-after_exchange (with_value m c.place c.value) cs ∙ profile-with_value m c.place c.value

profile-unwound : (w : Whole) (xs : List Entry) → (unwound w xs).core.storage.fetch_protection ≡ w.core.storage.fetch_protection
profile-unwound w [] = refl
profile-unwound w (x ∷ xs) = profile-unwound (after_swap w x.changes) xs ∙ profile-after_exchange w.core x.changes.cells

pub profile-session : (w : Whole) (es : List Event) (xs : List Change) (limit : ℕ) (s : Standing) → AreHistory w es xs
    → record { start = unwound w (reverse (entries_of es xs)); events = es; limit = limit } ≡ s
    → (machine_of s).core.storage.fetch_protection ≡ s.start.core.storage.fetch_protection
profile-session w es xs limit s h view =
    ap (λ (m : Machine). m.core.storage.fetch_protection) (sym (machine_of-session w es xs limit s h view))
    ∙ sym (profile-unwound w (reverse (entries_of es xs))) ∙ ap (λ (t : Standing). t.start.core.storage.fetch_protection) view

-- ---- what stands is not refused where it is run again

allowed-join : (n : ℕ) (es fs : List Event) → AreAllowed n es → AreAllowed n fs → AreAllowed n (es ++ fs)
allowed-join n [] fs h g = g
allowed-join n (e ∷ es) fs h g = (h.0, allowed-join n es fs h.1 g)

allowed-first : (n : ℕ) (es fs : List Event) → AreAllowed n (es ++ fs) → AreAllowed n es
allowed-first n [] fs h = tt
allowed-first n (e ∷ es) fs h = (h.0, allowed-first n es fs h.1)

allowed-rest : (n : ℕ) (es fs : List Event) → AreAllowed n (es ++ fs) → AreAllowed n fs
allowed-rest n [] fs h = h
allowed-rest n (e ∷ es) fs h = allowed-rest n es fs h.1

allowed-reverse : (n : ℕ) (es : List Event) → AreAllowed n es → AreAllowed n (reverse es)
allowed-reverse n [] h = tt
allowed-reverse n (e ∷ es) h = rw (reverse-append (e ∷ []) es) (allowed-join n (reverse es) (e ∷ []) (allowed-reverse n es h.1) (h.0, tt))

allowed-history : (w : Whole) (xs : List Entry) → IsHistory w xs → AreAllowed (storage_size (seen w)) (map (λ (x : Entry). x.event) (reverse xs))
allowed-history w [] h = tt
allowed-history w (x ∷ xs) h =
    let before : Whole = after_swap w x.changes
    in let size : storage_size (seen before) ≡ storage_size (seen w) = size-after_exchange w.core x.changes.cells
    in let one : IsStep (seen before) x.event (seen w) = IsStep-from (seen before) x.event (seen w) h.2
    in let last : refusal_of (storage_size (seen w)) x.event ≡ None = subst (λ n. refusal_of n x.event ≡ None) size one.accepted
    in let others : AreAllowed (storage_size (seen w)) (map (λ (y : Entry). y.event) (reverse xs))
    = subst (λ n. AreAllowed n (map (λ (y : Entry). y.event) (reverse xs))) size (allowed-history before xs h.4)
    in rw (events-newest x xs) (allowed-join (storage_size (seen w)) (map (λ (y : Entry). y.event) (reverse xs)) (x.event ∷ []) others (last, tt))

pub allowed-session : (w : Whole) (es : List Event) (xs : List Change) (limit : ℕ) (s : Standing) → AreHistory w es xs
    → record { start = unwound w (reverse (entries_of es xs)); events = es; limit = limit } ≡ s → AreAllowed (storage_size (seen s.start)) s.events
allowed-session w es xs limit s h view =
    let all : AreAllowed (storage_size (seen w)) (map (λ (x : Entry). x.event) (reverse (reverse (entries_of es xs)))) = allowed-history w (reverse (entries_of es xs)) h.0
    in let same : map (λ (x : Entry). x.event) (reverse (reverse (entries_of es xs))) ≡ es
    = ap (λ l. map (λ (x : Entry). x.event) l) (reverse-reverse (entries_of es xs)) ∙ events-of es xs h.1
    in let standing : AreAllowed (storage_size (seen (unwound w (reverse (entries_of es xs))))) es
    = subst (λ n. AreAllowed n es) (sym (size-unwound w (reverse (entries_of es xs)))) (subst (λ l. AreAllowed (storage_size (seen w)) l) same all)
    in subst (λ (t : Standing). AreAllowed (storage_size (seen t.start)) t.events) view standing

-- ---- changes are taken back

-- the session s went back to t, and these are the events that were taken back, the last of them first
pub record TakesOff (s t : Standing) (later : List Event) (k : ℕ) : Type 0 where
  pub kept : s ≡ with_events t (reverse later)
  pub least : k ≤ length t.events

no-events : (t : Standing) → t ≡ with_events t []
no-events t = ap (λ l. record t { events = l }) (sym (append-nil t.events))

pub TakesOff-none : (s : Standing) (later : List Event) (k : ℕ) → later ≡ [] → k ≤ length s.events → TakesOff s s later k
TakesOff-none s later k none l = record { kept = no-events s ∙ ap (λ es. with_events s (reverse es)) (sym none); least = l }

pub TakesOff-more : (s t u : Standing) (later more : List Event) (e : Event) (k : ℕ) → TakesOff s t later k → k < length t.events
    → t ≡ record u { events = u.events ++ e ∷ [] } → more ≡ later ++ e ∷ [] → TakesOff s u more k
TakesOff-more s t u later more e k h l one put = record {
  kept = h.kept ∙ ap (λ (x : Standing). with_events x (reverse later)) one
      ∙ ap (λ es. record u { events = es }) (append_assoc u.events (e ∷ []) (reverse later))
      ∙ ap (λ es. with_events u es) (sym (reverse-append later (e ∷ []))) ∙ ap (λ es. with_events u (reverse es)) (sym put);
  least = omega (arith, l, ap (λ (x : Standing). length x.events) one, length-append u.events (e ∷ []));
}

-- ---- and run again

-- the session s went on to t: what is left of the events leads where all of them did
pub record GoesOn (s t : Standing) (all later : List Event) : Type 0 where
  pub leads : with_events t (reverse later) ≡ with_events s (reverse all)
  pub allowed : AreAllowed (storage_size (seen t.start)) later
  pub room : length t.events + length later ≤ t.limit

pub GoesOn-all : (s : Standing) (all : List Event) → AreAllowed (storage_size (seen s.start)) all → length s.events + length all ≤ s.limit → GoesOn s s all all
GoesOn-all s all h l = record { leads = refl; allowed = h; room = l }

-- the event that comes next
pub next-allowed : (s t : Standing) (all later rest : List Event) (e : Event) → GoesOn s t all later → later ≡ rest ++ e ∷ [] → refusal_of (storage_size (seen t.start)) e ≡ None
next-allowed s t all later rest e h next =
    let both : AreAllowed (storage_size (seen t.start)) (rest ++ e ∷ []) = subst (λ l. AreAllowed (storage_size (seen t.start)) l) next h.allowed
    in (allowed-rest (storage_size (seen t.start)) rest (e ∷ []) both).0

pub next-room : (s t : Standing) (all later rest : List Event) (e : Event) → GoesOn s t all later → later ≡ rest ++ e ∷ [] → length t.events < t.limit
next-room s t all later rest e h next = omega (arith, h.room, ap length next, length-append rest (e ∷ []))

pub GoesOn-one : (s t u : Standing) (all later rest : List Event) (e : Event) → GoesOn s t all later → later ≡ rest ++ e ∷ [] → IsAfter u t e → GoesOn s u all rest
GoesOn-one s t u all later rest e h next one =
    let start : u.start ≡ t.start = ap (λ (x : Standing). x.start) one
    in let limit : u.limit ≡ t.limit = ap (λ (x : Standing). x.limit) one
    in let both : AreAllowed (storage_size (seen t.start)) (rest ++ e ∷ []) = subst (λ l. AreAllowed (storage_size (seen t.start)) l) next h.allowed
    in record {
      leads = ap (λ (x : Standing). with_events x (reverse rest)) one ∙ ap (λ es. record t { events = es }) (append_assoc t.events (e ∷ []) (reverse rest))
          ∙ ap (λ es. with_events t es) (sym (reverse-append rest (e ∷ []))) ∙ ap (λ es. with_events t (reverse es)) (sym next) ∙ h.leads;
      allowed = subst (λ (w : Whole). AreAllowed (storage_size (seen w)) rest) (sym start) (allowed-first (storage_size (seen t.start)) rest (e ∷ []) both);
      room = omega (arith, h.room, ap length next, length-append rest (e ∷ []), limit, ap (λ (x : Standing). length x.events) one, length-append t.events (e ∷ []));
    }

pub GoesOn-end : (s t : Standing) (all later : List Event) → GoesOn s t all later → later ≡ [] → t ≡ with_events s (reverse all)
GoesOn-end s t all later h none = no-events t ∙ ap (λ es. with_events t (reverse es)) (sym none) ∙ h.leads

-- ---- a withdrawal

-- what stands once the change of number k and the later ones are taken back
pub record Without (s u : Standing) (later : List Event) (k : ℕ) : Type 0 where
  pub withdrawn : Event
  pub start : u.start ≡ s.start
  pub limit : u.limit ≡ s.limit
  pub parts : s.events ≡ u.events ++ withdrawn ∷ reverse later
  pub number : k ≡ length u.events + 1

Without-from : (s t u : Standing) (later : List Event) (k : ℕ) (e : Event) → s ≡ with_events t (reverse later) → length t.events ≡ k
    → t ≡ record u { events = u.events ++ e ∷ [] } → Without s u later k
Without-from s t u later k e back count one = record {
  withdrawn = e;
  start = sym (ap (λ (x : Standing). x.start) back ∙ ap (λ (x : Standing). x.start) one);
  limit = sym (ap (λ (x : Standing). x.limit) back ∙ ap (λ (x : Standing). x.limit) one);
  parts = ap (λ (x : Standing). x.events) back ∙ ap (λ (x : Standing). x.events ++ reverse later) one ∙ append_assoc u.events (e ∷ []) (reverse later);
  number = omega (arith, sym count, ap (λ (x : Standing). length x.events) one, length-append u.events (e ∷ []));
}

-- by what a step back answers: a change stands, so one is taken back
pub Without-back : (s t u : Standing) (later : List Event) (k : ℕ) (r : Result Event NothingStands) → s ≡ with_events t (reverse later) → length t.events ≡ k → 0 < k
    → IfOk r (λ e. t ≡ record u { events = u.events ++ e ∷ [] }) → OnErr r (t.events ≡ []) → Without s u later k
Without-back s t u later k (Ok e) back count some one none = Without-from s t u later k e back count one
Without-back s t u later k (Err n) back count some one none = absurd (omega (arith, sym count, some, ap (λ (es : List Event). length es) none))

pub Without-allowed : (s u : Standing) (later : List Event) (k : ℕ) → Without s u later k → AreAllowed (storage_size (seen s.start)) s.events
    → AreAllowed (storage_size (seen u.start)) later
Without-allowed s u later k h all =
    let n : ℕ = storage_size (seen s.start)
    in let parts : AreAllowed n (u.events ++ h.withdrawn ∷ reverse later) = subst (λ l. AreAllowed n l) h.parts all
    in let back : AreAllowed n (reverse later) = (allowed-rest n u.events (h.withdrawn ∷ reverse later) parts).1
    in subst (λ (w : Whole). AreAllowed (storage_size (seen w)) later) (sym h.start) (subst (λ l. AreAllowed n l) (reverse-reverse later) (allowed-reverse n (reverse later) back))

pub Without-room : (s u : Standing) (later : List Event) (k : ℕ) → Without s u later k → length s.events ≤ s.limit → length u.events + length later ≤ u.limit
Without-room s u later k h few =
    omega (arith, few, h.limit, ap length h.parts, length-append u.events (h.withdrawn ∷ reverse later), length-reverse later)

pub Without-run : (s u t : Standing) (later : List Event) (k : ℕ) → Without s u later k → t ≡ with_events u (reverse later)
    → t ≡ record s { events = without_event k s.events }
Without-run s u t later k h run =
    let first : take (k - 1) s.events ≡ u.events
    = (let count : k - 1 ≡ length u.events = omega (arith, h.number) in rw (count, h.parts) (take-append_seam u.events (h.withdrawn ∷ reverse later)))
    in let rest : drop k s.events ≡ reverse later
    = (let count : k ≡ length (u.events ++ h.withdrawn ∷ []) = omega (arith, h.number, length-append u.events (h.withdrawn ∷ []))
    in let parts : s.events ≡ (u.events ++ h.withdrawn ∷ []) ++ reverse later = h.parts ∙ sym (append_assoc u.events (h.withdrawn ∷ []) (reverse later))
    in rw (count, parts) (drop-append_seam (u.events ++ h.withdrawn ∷ []) (reverse later)))
    in run ∙ ap (λ (w : Whole). record { start = w; events = u.events ++ reverse later; limit = u.limit }) h.start
    ∙ ap (λ n. record { start = s.start; events = u.events ++ reverse later; limit = n }) h.limit
    ∙ ap (λ es. record s { events = es ++ reverse later }) (sym first)
    ∙ ap (λ es. record s { events = take (k - 1) s.events ++ es }) (sym rest)
