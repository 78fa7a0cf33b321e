-- Events and changes of a session, side by side as entries.
use Rattle.std.proofs.Common.{◌≡◌, ◌<◌, ◌+◌, ◌-◌, ◌++◌, ◌∙◌, ℕ, zero, suc, List, [], ◌∷◌, Some, None, Ok, refl, ap, sym, subst, map, reverse, length, take, set, arith, slice_get, IfSome}
use Rattle.std.proofs.lemmas.List.{length-append, length-map, reverse-append}
use Rattle.std.proofs.lemmas.Option.{slice_get-get_or}
use Rattle.s360_machine.specs.declared.event.Event.{Event}
use Rattle.s360_machine.specs.Machine.{Whole, seen, storage_size}
use Rattle.s360_machine.specs.Change.{CanSwap, Change, HasRoom, NeedsNoRoom, after_swap, change_after_swap, places_of_change}
use Rattle.s360_machine.specs.Packed.{IsSwapOf}
use Rattle.s360_machine.specs.Planned.{IsChangeTo}
use Rattle.s360_machine.specs.Refusals.{refusal_of}
use Rattle.s360_machine.specs.Step.{after, step}
use Rattle.s360_journal.specs.Advances.{IsMade, LeadsOn, LedFrom}
use Rattle.s360_journal.specs.History.{AreHistory, Entry, IsHistory, entries_of, unwound}
use Rattle.s360_journal.specs.Rerun.{AreAccepted, rerun}
use Rattle.s360_journal.specs.Standing.{IsAfter, Standing, alteration, machine_of}
use Rattle.s360_journal.proofs.ForwardLemmas.{IsHistory-forward}
use Rattle.s360_journal.proofs.HistoryLemmas.{AreAccepted-unwound, alteration-last, machine_of-view, rerun-unwound, step-Ok}

pub events-of : (es : List Event) (xs : List Change) → length es ≡ length xs → map (λ (x : Entry). x.event) (entries_of es xs) ≡ es
events-of [] xs h = refl
events-of (e ∷ es) [] h = absurd (omega (arith, h))
events-of (e ∷ es) (x ∷ xs) h = ap (λ l. e ∷ l) (events-of es xs (omega (arith, h)))

pub changes-of : (es : List Event) (xs : List Change) → length es ≡ length xs → map (λ (x : Entry). x.changes) (entries_of es xs) ≡ xs
changes-of [] [] h = refl
changes-of [] (x ∷ xs) h = absurd (omega (arith, h))
changes-of (e ∷ es) [] h = absurd (omega (arith, h))
changes-of (e ∷ es) (x ∷ xs) h = ap (λ l. x ∷ l) (changes-of es xs (omega (arith, h)))

pub entries-push : (es : List Event) (xs : List Change) (e : Event) (x : Change) → length es ≡ length xs
    → entries_of (es ++ e ∷ []) (xs ++ x ∷ []) ≡ entries_of es xs ++ record { event = e; changes = x } ∷ []
entries-push [] [] e x h = refl
entries-push [] (y ∷ ys) e x h = absurd (omega (arith, h))
entries-push (f ∷ fs) [] e x h = absurd (omega (arith, h))
entries-push (f ∷ fs) (y ∷ ys) e x h = ap (λ l. record { event = f; changes = y } ∷ l) (entries-push fs ys e x (omega (arith, h)))

-- a session's view, by its entries
viewed : (w : Whole) (es : List Event) (xs : List Change) (limit : ℕ) (s : Standing) → length es ≡ length xs
    → record { start = unwound w (reverse (entries_of es xs)); events = es; limit = limit } ≡ s
    → record { start = unwound w (reverse (entries_of es xs)); events = map (λ (x : Entry). x.event) (entries_of es xs); limit = limit } ≡ s
viewed w es xs limit s h view = ap (λ (fs : List Event). record { start = unwound w (reverse (entries_of es xs)); events = fs; limit = limit }) (events-of es xs h) ∙ view

pub rerun-session : (w : Whole) (es : List Event) (xs : List Change) → AreHistory w es xs → rerun (seen (unwound w (reverse (entries_of es xs)))) es ≡ seen w
rerun-session w es xs h = ap (λ fs. rerun (seen (unwound w (reverse (entries_of es xs)))) fs) (sym (events-of es xs h.1)) ∙ rerun-unwound w (entries_of es xs) h.0

pub AreAccepted-session : (w : Whole) (es : List Event) (xs : List Change) → AreHistory w es xs → AreAccepted (seen (unwound w (reverse (entries_of es xs)))) es
AreAccepted-session w es xs h =
    subst (λ (fs : List Event). AreAccepted (seen (unwound w (reverse (entries_of es xs)))) fs) (events-of es xs h.1) (AreAccepted-unwound w (entries_of es xs) h.0)

pub machine_of-session : (w : Whole) (es : List Event) (xs : List Change) (limit : ℕ) (s : Standing) → AreHistory w es xs
    → record { start = unwound w (reverse (entries_of es xs)); events = es; limit = limit } ≡ s → seen w ≡ machine_of s
machine_of-session w es xs limit s h view = machine_of-view w (entries_of es xs) limit s h.0 (viewed w es xs limit s h.1 view)

-- the last of changes
pub last-there : {X : Type 0} (xs : List X) (x : X) → slice_get (xs ++ x ∷ []) (length xs) ≡ Some x
last-there [] x = refl
last-there (y ∷ xs) x = last-there xs x

pub set-last : {X : Type 0} (xs : List X) (x y : X) → set (xs ++ x ∷ []) (length xs) y ≡ xs ++ y ∷ []
set-last [] x y = refl
set-last (z ∷ xs) x y = ap (λ l. z ∷ l) (set-last xs x y)

last-entry : (es : List Event) (xs : List Change) (x : Change) (i : ℕ) → length es ≡ length xs → slice_get xs i ≡ Some x
    → (e : Event) × (Some (record { event = e; changes = x }) ≡ slice_get (entries_of es xs) i)
last-entry [] [] x i h k = absurd (let none : None ≡ Some x = k in cc)
last-entry [] (y ∷ ys) x i h k = absurd (omega (arith, h))
last-entry (e ∷ es) [] x i h k = absurd (omega (arith, h))
last-entry (e ∷ es) (y ∷ ys) x zero h k = let same : y ≡ x = cc in (e, ap (λ (z : Change). Some (record { event = e; changes = z })) (sym same))
last-entry (e ∷ es) (y ∷ ys) x (suc i) h k = last-entry es ys x i (omega (arith, h)) k

length-entries : (es : List Event) (xs : List Change) → length es ≡ length xs → length (entries_of es xs) ≡ length xs
length-entries es xs h = sym (length-map (entries_of es xs) (λ (x : Entry). x.event)) ∙ ap length (events-of es xs h) ∙ h

pub alteration-session : (w : Whole) (es : List Event) (xs : List Change) (x : Change) (limit : ℕ) (t s : Standing) (e : Event) → AreHistory w es xs
    → record { start = unwound w (reverse (entries_of es xs)); events = es; limit = limit } ≡ t
    → slice_get xs (length xs - 1) ≡ Some x → IsAfter t s e → places_of_change x ≡ alteration s e
alteration-session w es xs x limit t s e h view last is =
    let entry : (f : Event) × (Some (record { event = f; changes = x }) ≡ slice_get (entries_of es xs) (length xs - 1)) = last-entry es xs x (length xs - 1) h.1 last
    in alteration-last w (entries_of es xs) (record { event = entry.0; changes = x }) limit t s e h.0 (viewed w es xs limit t h.1 view)
    (entry.1 ∙ ap (λ n. slice_get (entries_of es xs) (n - 1)) (sym (length-entries es xs h.1))) is

-- where an event stands after others, a change stands last
pub some-session : (w : Whole) (es : List Event) (xs : List Change) (limit : ℕ) (t s : Standing) (e : Event) → AreHistory w es xs
    → record { start = unwound w (reverse (entries_of es xs)); events = es; limit = limit } ≡ t → IsAfter t s e → (x : Change) × (slice_get xs (length xs - 1) ≡ Some x)
some-session w es [] limit t s e h view is =
    absurd (omega (arith, h.1, ap (λ (k : Standing). length k.events) (view ∙ is), length-append s.events (e ∷ [])))
some-session w es (x ∷ xs) limit t s e h view is = (_, slice_get-get_or (x ∷ xs) (length (x ∷ xs) - 1) x (omega arith))

-- an event more
pub AreHistory-forward : (w v : Whole) (es : List Event) (xs : List Change) (e : Event) (x y : Change) → AreHistory w es xs
    → refusal_of (storage_size (seen w)) e ≡ None → IsChangeTo w x (after (seen w) e)
    → v ≡ after_swap w x → y ≡ change_after_swap w x → CanSwap v y → NeedsNoRoom y → after_swap v y ≡ w
    → AreHistory v (es ++ e ∷ []) (xs ++ y ∷ [])
AreHistory-forward w v es xs e x y h accepted change v_is y_is can no_room back = (
  subst (λ (l : List Entry). IsHistory v (reverse l)) (sym (entries-push es xs e y h.1)) (IsHistory-forward w v (entries_of es xs) e x y h.0 accepted change v_is y_is can no_room back),
  omega (arith, length-append es (e ∷ []), length-append xs (y ∷ []), h.1),
)

-- and the start stays
pub unwound-forward : (w v : Whole) (es : List Event) (xs : List Change) (e : Event) (y : Change) → length es ≡ length xs → after_swap v y ≡ w
    → unwound v (reverse (entries_of (es ++ e ∷ []) (xs ++ y ∷ []))) ≡ unwound w (reverse (entries_of es xs))
unwound-forward w v es xs e y h back =
    ap (λ (l : List Entry). unwound v (reverse l)) (entries-push es xs e y h) ∙ ap (λ (l : List Entry). unwound v l) (reverse-append (entries_of es xs) (record { event = e; changes = y } ∷ []))
    ∙ ap (λ (k : Whole). unwound k (reverse (entries_of es xs))) back

-- the last event and its change
pub record Last (w : Whole) (es : List Event) (xs : List Change) (fs : List Event) (e : Event) (x : Change) : Type 0 where
  pub changes : xs ≡ take (length xs - 1) xs ++ x ∷ []
  pub can : CanSwap w x
  pub no_room : NeedsNoRoom x
  pub step : step (seen (after_swap w x)) e ≡ Ok (seen w)
  pub before : AreHistory (after_swap w x) fs (take (length xs - 1) xs)
  pub start : unwound w (reverse (entries_of es xs)) ≡ unwound (after_swap w x) (reverse (entries_of fs (take (length xs - 1) xs)))

pub split-last : {X : Type 0} (xs : List X) (n : ℕ) → length xs ≡ n + 1 → (x : X) × (xs ≡ take n xs ++ x ∷ [])
split-last (x ∷ []) zero l = (x, refl)
split-last (x ∷ y ∷ ys) (suc n) l = let more : (z : _) × (y ∷ ys ≡ take n (y ∷ ys) ++ z ∷ []) = split-last (y ∷ ys) n (omega (arith, l)) in (more.0, ap (λ k. x ∷ k) more.1)
split-last xs n l = absurd (omega (arith, l))

pub last-session : (w : Whole) (es : List Event) (xs : List Change) (fs : List Event) (e : Event) → AreHistory w es xs → es ≡ fs ++ e ∷ [] → (x : Change) × Last w es xs fs e x
last-session w es xs fs e h is =
    let many : length xs ≡ length fs + 1 = omega (arith, h.1, ap length is, length-append fs (e ∷ []))
    in let n : length xs - 1 ≡ length fs = omega (arith, many)
    in let parts : (x : Change) × (xs ≡ take (length fs) xs ++ x ∷ []) = split-last xs (length fs) many
    in let x : Change = parts.0
    in let ys : List Change = take (length xs - 1) xs
    in let split : xs ≡ ys ++ x ∷ [] = parts.1 ∙ ap (λ k. take k xs ++ x ∷ []) (sym n)
    in let count : length fs ≡ length ys = omega (arith, ap length split, length-append ys (x ∷ []), many)
    in let entries : entries_of es xs ≡ entries_of fs ys ++ record { event = e; changes = x } ∷ []
    = ap (λ l. entries_of l xs) is ∙ ap (λ l. entries_of (fs ++ e ∷ []) l) split ∙ entries-push fs ys e x count
    in let newest : reverse (entries_of es xs) ≡ record { event = e; changes = x } ∷ reverse (entries_of fs ys)
    = ap (λ (l : List Entry). reverse l) entries ∙ reverse-append (entries_of fs ys) (record { event = e; changes = x } ∷ [])
    in let history : IsHistory w (record { event = e; changes = x } ∷ reverse (entries_of fs ys)) = subst (λ (l : List Entry). IsHistory w l) newest h.0
    in (
      x,
      record {
        changes = split;
        can = history.0;
        no_room = history.1;
        step = history.2;
        before = (history.4, count);
        start = ap (λ (l : List Entry). unwound w l) newest;
      },
    )

-- the last change, where it was added
pub found-last : (xs ys : List Change) (x : Change) (n : ℕ) → ys ≡ xs ++ x ∷ [] → n ≡ length ys → slice_get ys (n - 1) ≡ Some x
found-last xs ys x n is count =
    let last : n - 1 ≡ length xs = omega (arith, count, ap length is, length-append xs (x ∷ []))
    in ap (λ zs. slice_get zs (n - 1)) is ∙ ap (λ k. slice_get (xs ++ x ∷ []) k) last ∙ last-there xs x

-- the last change of a session, by its number
pub record IsLastChange (w : Whole) (xs : List Change) (n : ℕ) (x : Change) : Type 0 where
  pub found : slice_get xs (n - 1) ≡ Some x
  pub can : CanSwap w x
  pub no_room : NeedsNoRoom x

pub last-change : (w : Whole) (es : List Event) (xs : List Change) (n : ℕ) → AreHistory w es xs → 0 < n → n ≡ length xs → (x : Change) × IsLastChange w xs n x
last-change w es xs n h some count =
    let parts : (e : Event) × (es ≡ take (n - 1) es ++ e ∷ []) = split-last es (n - 1) (omega (arith, some, count, h.1))
    in let last : (x : Change) × Last w es xs (take (n - 1) es) parts.0 x = last-session w es xs (take (n - 1) es) parts.0 h parts.1
    in (last.0, record { found = found-last (take (length xs - 1) xs) xs last.0 n last.1.changes count; can = last.1.can; no_room = last.1.no_room })

-- a change that was appended, as it stands at the end
pub some-appended : (xs ys : List Change) (x : Change) → ys ≡ xs ++ x ∷ [] → 0 < length ys
some-appended xs ys x is = omega (arith, ap length is, length-append xs (x ∷ []))

pub if-appended : (xs ys : List Change) (x : Change) (P : Change → Type 0) → ys ≡ xs ++ x ∷ [] → P x → IfSome (slice_get ys (length ys - 1)) P
if-appended xs ys x P is p = rw (found-last xs ys x (length ys) is refl) p

-- a session after an event that was accepted
advanced : (w u v : Whole) (es : List Event) (xs ys zs : List Change) (e : Event) (x : Change) → AreHistory w es xs → refusal_of (storage_size (seen w)) e ≡ None
    → IsChangeTo w x (after (seen w) e) → u ≡ w → ys ≡ xs ++ x ∷ [] → IsMade u v ys zs
    → AreHistory v (es ++ e ∷ []) zs × (unwound v (reverse (entries_of (es ++ e ∷ []) zs)) ≡ unwound w (reverse (entries_of es xs)))
advanced w u v es xs ys zs e x h accepted change same is made =
    let found : slice_get ys (length ys - 1) ≡ Some x = found-last xs ys x (length ys) is refl
    in let last : length ys - 1 ≡ length xs = omega (arith, ap length is, length-append xs (x ∷ []))
    in let y : Change = change_after_swap w x
    in let swap : IsSwapOf w x v = subst (λ (k : Whole). IsSwapOf k x v) same (rw found at made.machine)
    in let new : zs ≡ set ys (length ys - 1) (change_after_swap u x) = rw found at made.changes
    in let all : zs ≡ xs ++ y ∷ []
    = new ∙ ap (λ (k : Whole). set ys (length ys - 1) (change_after_swap k x)) same ∙ ap (λ k. set ys k y) last ∙ ap (λ (l : List Change). set l (length xs) y) is ∙ set-last xs x y
    in (
      subst (λ (l : List Change). AreHistory v (es ++ e ∷ []) l) (sym all) (AreHistory-forward w v es xs e x y h accepted change swap.machine refl swap.again change.back swap.restores_machine),
      ap (λ (l : List Change). unwound v (reverse (entries_of (es ++ e ∷ []) l))) all ∙ unwound-forward w v es xs e y h.1 swap.restores_machine,
    )

-- whatever events led there
pub leads-on : (w u v : Whole) (xs ys zs : List Change) (e : Event) (x : Change) → refusal_of (storage_size (seen w)) e ≡ None → IsChangeTo w x (after (seen w) e)
    → u ≡ w → ys ≡ xs ++ x ∷ [] → IsMade u v ys zs → LeadsOn (record { whole = w; changes = xs }) e (record { whole = v; changes = zs })
leads-on w u v xs ys zs e x accepted change same is made =
    let swap : IsSwapOf w x v = subst (λ (k : Whole). IsSwapOf k x v) same (rw (found-last xs ys x (length ys) is refl) at made.machine)
    in record {
      step = step-Ok (seen w) e accepted ∙ ap (λ m. Ok m) (sym change.makes ∙ ap (λ k. seen k) (sym swap.machine));
      history = λ es h. let parts = advanced w u v es xs ys zs e x h accepted change same is made in record { before = h; after = parts.0; start = parts.1 };
    }

-- the last change can be exchanged with the machine, for which nothing is wanted
pub last-can : (w : Whole) (es : List Event) (xs : List Change) → AreHistory w es xs → 0 < length xs → IfSome (slice_get xs (length xs - 1)) (λ x. CanSwap w x)
last-can w es xs h some = let last : (x : Change) × IsLastChange w xs (length xs) x = last-change w es xs (length xs) h some refl in rw last.1.found last.1.can

pub last-room : (w : Whole) (es : List Event) (xs : List Change) (spare : _) → AreHistory w es xs → 0 < length xs → IfSome (slice_get xs (length xs - 1)) (λ x. HasRoom spare x)
last-room w es xs spare h some = let last : (x : Change) × IsLastChange w xs (length xs) x = last-change w es xs (length xs) h some refl in rw last.1.found (last.1.no_room spare)

-- and it is taken back
pub led-from : (w v : Whole) (xs zs : List Change) → IfSome (slice_get xs (length xs - 1)) (λ x. IsSwapOf w x v) → zs ≡ take (length xs - 1) xs
    → LedFrom (record { whole = w; changes = xs }) (record { whole = v; changes = zs })
led-from w v xs zs swaps kept = λ es e h.
    let last : (x : Change) × Last w (es ++ e ∷ []) xs es e x = last-session w (es ++ e ∷ []) xs es e h refl
    in let us : List Change = take (length xs - 1) xs
    in let swap : IsSwapOf w last.0 v = rw (found-last us xs last.0 (length xs) last.1.changes refl) at swaps
    in (
      ap (λ (k : Whole). step (seen k) e) swap.machine ∙ last.1.step,
      record {
        before = subst (λ (l : List Change). AreHistory v es l) (sym kept) (subst (λ (k : Whole). AreHistory k es us) (sym swap.machine) last.1.before);
        after = h;
        start = last.1.start ∙ ap (λ (k : Whole). unwound k (reverse (entries_of es us))) (sym swap.machine) ∙ ap (λ (l : List Change). unwound v (reverse (entries_of es l))) (sym kept);
      },
    )
