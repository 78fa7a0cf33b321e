-- The numbers of the changes of a place, in an index of a session's changes and by the events run again.
use Rattle.std.proofs.Common.{◌≡◌, ◌<◌, ◌≤◌, ◌+◌, ◌-◌, ◌++◌, ◌∙◌, inl, inr, ℕ, zero, suc, Bool, true, false, cond, ◌||◌, List, [], ◌∷◌, Option, Some, None, Result, Ok, Err, refl, ap, sym, subst, map, reverse, length, take, set, eqb, append-nil, arith, MatchBool, IfSome, OnErr, OnOk, is_err}
use Rattle.std.specs.List.{list_any, slice_get}
use Rattle.std.proofs.lemmas.List.Folds.{list_any-append}
use Rattle.std.proofs.lemmas.List.{append_assoc, length-append, length-map, length-reverse, length-set, length-take-le, map_push, reverse-append, reverse-reverse, take-set, take_at}
use Rattle.s360_store.specs.declared.place.Place.{Place}
use Rattle.s360_store.specs.Places.{same_place}
use Rattle.s360_store.specs.declared.span.Span.{Span}
use Rattle.s360_store.specs.Spans.{AreSpans, IsSpan, places_of_span, places_of_spans}
use Rattle.s360_index.specs.Histories.{Gains, GainsInPart, Histories, Loses, numbers}
use Rattle.s360_index.specs.Sizes.{AreSpansWithinSize, IsSpanWithinSize}
use Rattle.s360_index.specs.Numbers.{MayGain, MayLose, ends_with, is_number, with_number, without_number}
use Rattle.s360_machine.specs.declared.event.Event.{Event}
use Rattle.s360_machine.specs.Machine.{Machine, Whole, seen}
use Rattle.s360_machine.specs.Step.{after}
use Rattle.s360_machine.specs.Change.{Change, after_swap, change_after_swap, places_of_change}
use Rattle.s360_machine.specs.ChangeSpans.{AreSpansOf}
use Rattle.s360_machine.specs.Differences.{differences}
use Rattle.s360_machine.specs.Packed.{change_alters}
use Rattle.s360_machine.proofs.SpanLemmas.{places_of_spans-append}
use Rattle.s360_journal.specs.History.{AreHistory, Entry, IsHistory, entries_of, unwound}
use Rattle.s360_journal.specs.Indexed.{IsIndexOf, MayIndex, altering, altering_from}
use Rattle.s360_journal.specs.Rerun.{alters, altering_events_from, changes_of, last_numbered_from, or_else, rerun}
use Rattle.s360_journal.proofs.HistoryLemmas.{IsStep, IsStep-from, events-newest, places_of_change-after, rerun-newest}
use Rattle.s360_journal.proofs.SessionLemmas.{changes-of, events-of, last-there, split-last}

-- all numbers of a list are below one
abbrev AllBelow : ℕ → List ℕ → Type 0
AllBelow m [] = Unit {0}
AllBelow m (n ∷ ns) = (n < m) × AllBelow m ns

AllBelow-altering : (k m : ℕ) (xs : List Change) (p : Place) → k + length xs ≤ m → AllBelow m (altering_from k xs p)
AllBelow-altering k m [] p l = tt
AllBelow-altering k m (x ∷ xs) p l =
    let rest : AllBelow m (altering_from (k + 1) xs p) = AllBelow-altering (k + 1) m xs p (omega (arith, l))
    in let by : (b : Bool) → AllBelow m (cond b (k ∷ altering_from (k + 1) xs p) (altering_from (k + 1) xs p))
    = λ b. elim b as (λ c. AllBelow m (cond c (k ∷ altering_from (k + 1) xs p) (altering_from (k + 1) xs p))) [ true ↦ (omega (arith, l), rest) | false ↦ rest ]
    in by (change_alters x p)

below : (xs : List Change) (p : Place) → AllBelow (length xs + 1) (altering xs p)
below xs p = AllBelow-altering 1 (length xs + 1) xs p (omega arith)

-- such a list does not end with the one, and it does once the one is put at its end
unlike : (n m : ℕ) → n < m → eqb n m ≡ false
unlike n m l = grind arith

ends_with-below : (m : ℕ) (ns : List ℕ) → AllBelow m ns → ends_with ns m ≡ false
ends_with-below m [] h = refl
ends_with-below m (n ∷ []) h = unlike n m h.0
ends_with-below m (n ∷ i ∷ ns) h =
    let last : length (n ∷ i ∷ ns) - 1 ≡ suc (length (i ∷ ns) - 1) = omega arith
    in ap (λ j. is_number (slice_get (n ∷ i ∷ ns) j) m) last ∙ ends_with-below m (i ∷ ns) h.1

same : (m : ℕ) → eqb m m ≡ true
same m = grind arith

ends_with-push : (m : ℕ) (ns : List ℕ) → ends_with (ns ++ m ∷ []) m ≡ true
ends_with-push m ns =
    let last : length (ns ++ m ∷ []) - 1 ≡ length ns = omega (arith, length-append ns (m ∷ []))
    in ap (λ j. is_number (slice_get (ns ++ m ∷ []) j) m) last ∙ ap (λ o. is_number o m) (last-there ns m) ∙ same m

with-below : (m : ℕ) (ns : List ℕ) → AllBelow m ns → with_number m ns ≡ ns ++ m ∷ []
with-below m ns h = ap (λ b. cond b ns (ns ++ m ∷ [])) (ends_with-below m ns h)

without-below : (m : ℕ) (ns : List ℕ) → AllBelow m ns → without_number m ns ≡ ns
without-below m ns h = ap (λ b. cond b (take (length ns - 1) ns) ns) (ends_with-below m ns h)

without-push : (m : ℕ) (ns : List ℕ) → without_number m (ns ++ m ∷ []) ≡ ns
without-push m ns =
    let last : length (ns ++ m ∷ []) - 1 ≡ length ns = omega (arith, length-append ns (m ∷ []))
    in ap (λ b. cond b (take (length (ns ++ m ∷ []) - 1) (ns ++ m ∷ [])) (ns ++ m ∷ [])) (ends_with-push m ns) ∙ ap (λ j. take j (ns ++ m ∷ [])) last ∙ take_at ns (m ∷ []) (length ns) refl

with-twice : (m : ℕ) (ns : List ℕ) → with_number m (with_number m ns) ≡ with_number m ns
with-twice m ns =
    let by : (b : Bool) → ends_with ns m ≡ b → with_number m (cond b ns (ns ++ m ∷ [])) ≡ cond b ns (ns ++ m ∷ [])
    = λ b. elim b as (λ c. ends_with ns m ≡ c → with_number m (cond c ns (ns ++ m ∷ [])) ≡ cond c ns (ns ++ m ∷ [])) [
      | true ↦ λ e. ap (λ c. cond c ns (ns ++ m ∷ [])) e
      | false ↦ λ e. ap (λ c. cond c (ns ++ m ∷ []) ((ns ++ m ∷ []) ++ m ∷ [])) (ends_with-push m ns)
    ]
    in by (ends_with ns m) refl

-- the number is taken once
abbrev IsOnce : ℕ → List ℕ → Type 0
IsOnce k ns = without_number k (without_number k ns) ≡ without_number k ns

once-may : (m : ℕ) (ns ks : List ℕ) → AllBelow m ns → MayGain m ns ks → (without_number m ks ≡ ns) × IsOnce m ks
once-may m ns ks h (inl e) = let kept : without_number m ks ≡ ns = ap (without_number m) e ∙ without-below m ns h in (kept, ap (without_number m) (kept ∙ sym e))
once-may m ns ks h (inr e) =
    let taken : without_number m ks ≡ ns = ap (without_number m) (e ∙ with-below m ns h) ∙ without-push m ns
    in (taken, ap (without_number m) taken ∙ without-below m ns h ∙ sym taken)

-- a number more at the end, where one may stand in front
pushed : (k : ℕ) (rest : List ℕ) (n : ℕ) (b c : Bool) → cond b (k ∷ cond c (rest ++ n ∷ []) rest) (cond c (rest ++ n ∷ []) rest) ≡ cond c (cond b (k ∷ rest) rest ++ n ∷ []) (cond b (k ∷ rest) rest)
pushed k rest n true true = refl
pushed k rest n true false = refl
pushed k rest n false true = refl
pushed k rest n false false = refl

-- a change more
altering_from-push : (k : ℕ) (xs : List Change) (x : Change) (p : Place)
    → altering_from k (xs ++ x ∷ []) p ≡ cond (change_alters x p) (altering_from k xs p ++ (k + length xs) ∷ []) (altering_from k xs p)
altering_from-push k [] x p = let none : k + 0 ≡ k = omega arith in rw none refl
altering_from-push k (y ∷ xs) x p =
    let count : k + 1 + length xs ≡ k + length (y ∷ xs) = omega arith
    in let rest : List ℕ = altering_from (k + 1) xs p
    in ap (λ ns. cond (change_alters y p) (k ∷ ns) ns) (altering_from-push (k + 1) xs x p) ∙ pushed k rest (k + 1 + length xs) (change_alters y p) (change_alters x p)
    ∙ ap (λ n. cond (change_alters x p) (cond (change_alters y p) (k ∷ rest) rest ++ n ∷ []) (cond (change_alters y p) (k ∷ rest) rest)) count

altering-push : (xs : List Change) (x : Change) (p : Place)
    → altering (xs ++ x ∷ []) p ≡ cond (change_alters x p) (altering xs p ++ (length xs + 1) ∷ []) (altering xs p)
altering-push xs x p =
    let count : 1 + length xs ≡ length xs + 1 = omega arith
    in altering_from-push 1 xs x p ∙ ap (λ n. cond (change_alters x p) (altering xs p ++ n ∷ []) (altering xs p)) count

-- the places tell, and not the values
altering_from-set : (k : ℕ) (xs : List Change) (i : ℕ) (x y : Change) (p : Place) → slice_get xs i ≡ Some x → places_of_change y ≡ places_of_change x
    → altering_from k (set xs i y) p ≡ altering_from k xs p
altering_from-set k [] i x y p h e = absurd (let none : None ≡ Some x = h in cc)
altering_from-set k (z ∷ xs) zero x y p h e =
    let here : z ≡ x = cc
    in ap (λ ps. cond (list_any (λ q. same_place q p) ps) (k ∷ altering_from (k + 1) xs p) (altering_from (k + 1) xs p)) (e ∙ ap places_of_change (sym here))
altering_from-set k (z ∷ xs) (suc i) x y p h e = ap (λ ns. cond (change_alters z p) (k ∷ ns) ns) (altering_from-set (k + 1) xs i x y p h e)

pub index-set : (h : Histories) (xs : List Change) (i : ℕ) (x y : Change) → slice_get xs i ≡ Some x → places_of_change y ≡ places_of_change x → IsIndexOf h xs → IsIndexOf h (set xs i y)
index-set h xs i x y found e whole p = whole p ∙ sym (altering_from-set 1 xs i x y p found e)

-- places joined
among-append : (ps qs : List Place) (p : Place) → list_any (λ r. same_place r p) (ps ++ qs) ≡ (list_any (λ r. same_place r p) ps || list_any (λ r. same_place r p) qs)
among-append ps qs p = list_any-append (λ r. same_place r p) ps qs

either : (b c : Bool) → (b || c) ≡ false → (b ≡ false) × (c ≡ false)
either true c h = cc
either false c h = (refl, h)

-- numbers put at places, and at more of them
gained : (k : ℕ) (b c : Bool) (u v w : List ℕ) → v ≡ cond b (with_number k u) u → w ≡ cond c (with_number k v) v → w ≡ cond (b || c) (with_number k u) u
gained k true true u v w e f = f ∙ ap (with_number k) e ∙ with-twice k u
gained k true false u v w e f = f ∙ e
gained k false true u v w e f = f ∙ ap (with_number k) e
gained k false false u v w e f = f ∙ e

pub gains-more : (k : ℕ) (ps qs : List Place) (g h i : Histories) → Gains k ps g h → Gains k qs h i → Gains k (ps ++ qs) g i
gains-more k ps qs g h i a b p =
    gained k (list_any (λ r. same_place r p) ps) (list_any (λ r. same_place r p) qs) (numbers g p) (numbers h p) (numbers i p) (a p) (b p)
    ∙ ap (λ c. cond c (with_number k (numbers g p)) (numbers g p)) (sym (among-append ps qs p))

may-gain : (k : ℕ) (b : Bool) (u v w : List ℕ) → v ≡ cond b (with_number k u) u → MayGain k v w → MayGain k u w
may-gain k true u v w e (inl f) = inr (f ∙ e)
may-gain k true u v w e (inr f) = inr (f ∙ ap (with_number k) e ∙ with-twice k u)
may-gain k false u v w e (inl f) = inl (f ∙ e)
may-gain k false u v w e (inr f) = inr (f ∙ ap (with_number k) e)

pub gains-then-part : (k : ℕ) (ps qs : List Place) (g h i : Histories) → Gains k ps g h → GainsInPart k qs h i → GainsInPart k (ps ++ qs) g i
gains-then-part k ps qs g h i a b = record {
  each = λ p. may-gain k (list_any (λ r. same_place r p) ps) (numbers g p) (numbers h p) (numbers i p) (a p) (b.each p);
  outside = λ p none.
      let neither : (list_any (λ r. same_place r p) ps ≡ false) × (list_any (λ r. same_place r p) qs ≡ false)
      = either (list_any (λ r. same_place r p) ps) (list_any (λ r. same_place r p) qs) (sym (among-append ps qs p) ∙ none)
      in b.outside p neither.1 ∙ a p ∙ ap (λ c. cond c (with_number k (numbers g p)) (numbers g p)) neither.0;
}

-- an index with the number of a change more, of some of its places, and of none
pub index-whole : (g h : Histories) (xs : List Change) (x : Change) (ps : List Place) → ps ≡ places_of_change x → IsIndexOf g xs → Gains (length xs + 1) ps g h → IsIndexOf h (xs ++ x ∷ [])
index-whole g h xs x ps e whole gains p =
    gains p ∙ ap (λ (qs : List Place). cond (list_any (λ r. same_place r p) qs) (with_number (length xs + 1) (numbers g p)) (numbers g p)) e
    ∙ ap (λ ns. cond (change_alters x p) (with_number (length xs + 1) ns) ns) (whole p)
    ∙ ap (λ ns. cond (change_alters x p) ns (altering xs p)) (with-below (length xs + 1) (altering xs p) (below xs p)) ∙ sym (altering-push xs x p)

pub index-part : (g h : Histories) (xs : List Change) (x : Change) (ps qs : List Place) → ps ++ qs ≡ places_of_change x → IsIndexOf g xs → GainsInPart (length xs + 1) ps g h → MayIndex h xs x
index-part g h xs x ps qs e whole part p =
    let by : (b : Bool) → list_any (λ r. same_place r p) (ps ++ qs) ≡ b → MatchBool b (MayGain (length xs + 1) (altering xs p) (numbers h p)) (numbers h p ≡ altering xs p)
    = λ b. elim b as (λ c. list_any (λ r. same_place r p) (ps ++ qs) ≡ c → MatchBool c (MayGain (length xs + 1) (altering xs p) (numbers h p)) (numbers h p ≡ altering xs p)) [
      | true ↦ λ some. subst (λ ns. MayGain (length xs + 1) ns (numbers h p)) (whole p) (part.each p)
      | false ↦ λ none.
          part.outside p (either (list_any (λ r. same_place r p) ps) (list_any (λ r. same_place r p) qs) (sym (among-append ps qs p) ∙ none)).0 ∙ whole p
    ]
    in by (change_alters x p) (ap (λ rs. list_any (λ r. same_place r p) rs) e)

pub index-last : (h : Histories) (xs : List Change) (x : Change) → IsIndexOf h (xs ++ x ∷ []) → MayIndex h xs x
index-last h xs x whole p =
    let by : (b : Bool) → numbers h p ≡ cond b (altering xs p ++ (length xs + 1) ∷ []) (altering xs p) → MatchBool b (MayGain (length xs + 1) (altering xs p) (numbers h p)) (numbers h p ≡ altering xs p)
    = λ b. elim b as (λ c. numbers h p ≡ cond c (altering xs p ++ (length xs + 1) ∷ []) (altering xs p) → MatchBool c (MayGain (length xs + 1) (altering xs p) (numbers h p)) (numbers h p ≡ altering xs p)) [
      | true ↦ λ e. inr (e ∙ sym (with-below (length xs + 1) (altering xs p) (below xs p)))
      | false ↦ λ e. e
    ]
    in by (change_alters x p) (whole p ∙ altering-push xs x p)

-- numbers taken from places, and from more of them
pub may-index-once : (g : Histories) (xs : List Change) (x : Change) → MayIndex g xs x → (p : Place) → IsOnce (length xs + 1) (numbers g p)
may-index-once g xs x may p =
    let by : (b : Bool) → MatchBool b (MayGain (length xs + 1) (altering xs p) (numbers g p)) (numbers g p ≡ altering xs p) → IsOnce (length xs + 1) (numbers g p)
    = λ b. elim b as (λ c. MatchBool c (MayGain (length xs + 1) (altering xs p) (numbers g p)) (numbers g p ≡ altering xs p) → IsOnce (length xs + 1) (numbers g p)) [
      | true ↦ λ m. (once-may (length xs + 1) (altering xs p) (numbers g p) (below xs p) m).1
      | false ↦ λ e. (once-may (length xs + 1) (altering xs p) (numbers g p) (below xs p) (inl e)).1
    ]
    in by (change_alters x p) (may p)

lost : (k : ℕ) (u v w : List ℕ) → IsOnce k u → MayLose k u v → MayLose k v w → MayLose k u w
lost k u v w once (inl e) (inl f) = inl (f ∙ e)
lost k u v w once (inl e) (inr f) = inr (f ∙ ap (without_number k) e)
lost k u v w once (inr e) (inl f) = inr (f ∙ e)
lost k u v w once (inr e) (inr f) = inr (f ∙ ap (without_number k) e ∙ once)

lost-first : (k : ℕ) (u v w : List ℕ) → IsOnce k u → v ≡ without_number k u → MayLose k v w → w ≡ without_number k u
lost-first k u v w once e (inl f) = f ∙ e
lost-first k u v w once e (inr f) = f ∙ ap (without_number k) e ∙ once

lost-second : (k : ℕ) (u v w : List ℕ) → IsOnce k u → MayLose k u v → w ≡ without_number k v → w ≡ without_number k u
lost-second k u v w once (inl e) f = f ∙ ap (without_number k) e
lost-second k u v w once (inr e) f = f ∙ ap (without_number k) e ∙ once

pub loses-more : (k : ℕ) (ps qs : List Place) (g h i : Histories) → ((p : Place) → IsOnce k (numbers g p)) → Loses k ps g h → Loses k qs h i → Loses k (ps ++ qs) g i
loses-more k ps qs g h i once a b = record {
  each = λ p. lost k (numbers g p) (numbers h p) (numbers i p) (once p) (a.each p) (b.each p);
  inside = λ p one.
      let by : (c : Bool) → list_any (λ r. same_place r p) ps ≡ c → (c || list_any (λ r. same_place r p) qs) ≡ true → numbers i p ≡ without_number k (numbers g p)
      = λ c. elim c as (λ d. list_any (λ r. same_place r p) ps ≡ d → (d || list_any (λ r. same_place r p) qs) ≡ true → numbers i p ≡ without_number k (numbers g p)) [
        | true ↦ λ e f. lost-first k (numbers g p) (numbers h p) (numbers i p) (once p) (a.inside p e) (b.each p)
        | false ↦ λ e f. lost-second k (numbers g p) (numbers h p) (numbers i p) (once p) (a.each p) (b.inside p f)
      ]
      in by (list_any (λ r. same_place r p) ps) refl (sym (among-append ps qs p) ∙ one);
}

kept : (k : ℕ) (ns u v : List ℕ) → AllBelow k ns → u ≡ ns → MayLose k u v → v ≡ ns
kept k ns u v h e (inl f) = f ∙ e
kept k ns u v h e (inr f) = f ∙ ap (without_number k) e ∙ without-below k ns h

pub index-before : (g h : Histories) (xs : List Change) (x : Change) (ps : List Place) → ps ≡ places_of_change x → MayIndex g xs x → Loses (length xs + 1) ps g h → IsIndexOf h xs
index-before g h xs x ps e may loses p =
    let k : ℕ = length xs + 1
    in let by : (b : Bool) → list_any (λ r. same_place r p) ps ≡ b → MatchBool b (MayGain k (altering xs p) (numbers g p)) (numbers g p ≡ altering xs p) → numbers h p ≡ altering xs p
    = λ b. elim b as (λ c. list_any (λ r. same_place r p) ps ≡ c → MatchBool c (MayGain k (altering xs p) (numbers g p)) (numbers g p ≡ altering xs p) → numbers h p ≡ altering xs p) [
      | true ↦ λ one m. loses.inside p one ∙ (once-may k (altering xs p) (numbers g p) (below xs p) m).0
      | false ↦ λ none same. kept k (altering xs p) (numbers g p) (numbers h p) (below xs p) same (loses.each p)
    ]
    in by (change_alters x p) (ap (λ (qs : List Place). list_any (λ r. same_place r p) qs) e) (may p)

-- by the events run again
altering_events_from-push : (k : ℕ) (m : Machine) (es : List Event) (e : Event) (p : Place)
    → altering_events_from k m (es ++ e ∷ []) p ≡ cond (alters (rerun m es) e p) (altering_events_from k m es p ++ (k + length es) ∷ []) (altering_events_from k m es p)
altering_events_from-push k m [] e p = let none : k + 0 ≡ k = omega arith in rw none refl
altering_events_from-push k m (f ∷ es) e p =
    let count : k + 1 + length es ≡ k + length (f ∷ es) = omega arith
    in let rest : List ℕ = altering_events_from (k + 1) (after m f) es p
    in ap (λ ns. cond (alters m f p) (k ∷ ns) ns) (altering_events_from-push (k + 1) (after m f) es e p) ∙ pushed k rest (k + 1 + length es) (alters m f p) (alters (rerun (after m f) es) e p)
    ∙ ap (λ n. cond (alters (rerun (after m f) es) e p) (cond (alters m f p) (k ∷ rest) rest ++ n ∷ []) (cond (alters m f p) (k ∷ rest) rest)) count

-- those of entries, the newest first
abbrev newest_altering : List Entry → Place → List ℕ
newest_altering [] p = []
newest_altering (x ∷ xs) p = cond (change_alters x.changes p) (newest_altering xs p ++ (length xs + 1) ∷ []) (newest_altering xs p)

changes_of-newest : (w : Whole) (xs : List Entry) (p : Place) → IsHistory w xs
    → changes_of (seen (unwound w xs)) (map (λ (x : Entry). x.event) (reverse xs)) p ≡ newest_altering xs p
changes_of-newest w [] p h = refl
changes_of-newest w (x ∷ xs) p h =
    let before : Whole = after_swap w x.changes
    in let start : Machine = seen (unwound before xs)
    in let events : List Event = map (λ (y : Entry). y.event) (reverse xs)
    in let one : IsStep (seen before) x.event (seen w) = IsStep-from (seen before) x.event (seen w) h.2
    in let here : alters (rerun start events) x.event p ≡ change_alters x.changes p
    = ap (λ n. alters n x.event p) (rerun-newest before xs h.4)
    ∙ ap (λ n. list_any (λ q. same_place q p) (differences (seen before) n)) one.leads
    ∙ ap (λ ps. list_any (λ q. same_place q p) ps) (sym h.3)
    in let count : 1 + length events ≡ length xs + 1 = omega (arith, length-map (reverse xs) (λ (y : Entry). y.event), length-reverse xs)
    in ap (λ l. changes_of start l p) (events-newest x xs)
    ∙ altering_events_from-push 1 start events x.event p
    ∙ ap (λ b. cond b (changes_of start events p ++ (1 + length events) ∷ []) (changes_of start events p)) here
    ∙ ap (λ n. cond (change_alters x.changes p) (changes_of start events p ++ n ∷ []) (changes_of start events p)) count
    ∙ ap (λ ns. cond (change_alters x.changes p) (ns ++ (length xs + 1) ∷ []) ns) (changes_of-newest before xs p h.4)

changes-newest : (x : Entry) (xs : List Entry) → map (λ (y : Entry). y.changes) (reverse (x ∷ xs)) ≡ map (λ (y : Entry). y.changes) (reverse xs) ++ x.changes ∷ []
changes-newest x xs = ap (λ l. map (λ (y : Entry). y.changes) l) (reverse-append (x ∷ []) xs) ∙ map_push (λ (y : Entry). y.changes) (reverse xs) x

altering-newest : (xs : List Entry) (p : Place) → altering (map (λ (x : Entry). x.changes) (reverse xs)) p ≡ newest_altering xs p
altering-newest [] p = refl
altering-newest (x ∷ xs) p =
    let changes : List Change = map (λ (y : Entry). y.changes) (reverse xs)
    in let count : length changes ≡ length xs = length-map (reverse xs) (λ (y : Entry). y.changes) ∙ length-reverse xs
    in ap (λ l. altering l p) (changes-newest x xs) ∙ altering-push changes x.changes p
    ∙ ap (λ n. cond (change_alters x.changes p) (altering changes p ++ (n + 1) ∷ []) (altering changes p)) count
    ∙ ap (λ ns. cond (change_alters x.changes p) (ns ++ (length xs + 1) ∷ []) ns) (altering-newest xs p)

pub changes_of-session : (w : Whole) (es : List Event) (xs : List Change) (p : Place) → AreHistory w es xs
    → changes_of (seen (unwound w (reverse (entries_of es xs)))) es p ≡ altering xs p
changes_of-session w es xs p h =
    let entries : List Entry = entries_of es xs
    in ap (λ fs. changes_of (seen (unwound w (reverse entries))) fs p) (sym (events-of es xs h.1) ∙ ap (λ l. map (λ (x : Entry). x.event) l) (sym (reverse-reverse entries)))
    ∙ changes_of-newest w (reverse entries) p h.0 ∙ sym (altering-newest (reverse entries) p)
    ∙ ap (λ l. altering (map (λ (x : Entry). x.changes) l) p) (reverse-reverse entries) ∙ ap (λ l. altering l p) (changes-of es xs h.1)

-- the last of them is the last change
some-there : (ns : List ℕ) (i : ℕ) (o : Option ℕ) → i < length ns → slice_get ns i ≡ or_else (slice_get ns i) o
some-there [] i o l = absurd (omega (arith, l))
some-there (n ∷ ns) zero o l = refl
some-there (n ∷ ns) (suc i) o l = some-there ns i o (omega (arith, l))

or-none : (o : Option ℕ) → or_else o None ≡ o
or-none None = refl
or-none (Some n) = refl

last-behind : (k : ℕ) (ns : List ℕ) → slice_get (k ∷ ns) (length (k ∷ ns) - 1) ≡ or_else (slice_get ns (length ns - 1)) (Some k)
last-behind k [] = refl
last-behind k (n ∷ ns) =
    let behind : length (k ∷ n ∷ ns) - 1 ≡ suc (length (n ∷ ns) - 1) = omega arith
    in ap (slice_get (k ∷ n ∷ ns)) behind ∙ some-there (n ∷ ns) (length (n ∷ ns) - 1) (Some k) (omega arith)

pub last_change_of-last : (k : ℕ) (m : Machine) (es : List Event) (p : Place)
    → last_numbered_from k m es p ≡ slice_get (altering_events_from k m es p) (length (altering_events_from k m es p) - 1)
last_change_of-last k m [] p = refl
last_change_of-last k m (e ∷ es) p =
    let rest : List ℕ = altering_events_from (k + 1) (after m e) es p
    in let by : (b : Bool) → or_else (slice_get rest (length rest - 1)) (cond b (Some k) None) ≡ slice_get (cond b (k ∷ rest) rest) (length (cond b (k ∷ rest) rest) - 1)
    = λ b. elim b as (λ c. or_else (slice_get rest (length rest - 1)) (cond c (Some k) None) ≡ slice_get (cond c (k ∷ rest) rest) (length (cond c (k ∷ rest) rest) - 1))
    [ true ↦ sym (last-behind k rest) | false ↦ or-none (slice_get rest (length rest - 1)) ]
    in ap (λ o. or_else o (cond (alters m e p) (Some k) None)) (last_change_of-last (k + 1) (after m e) es p) ∙ by (alters m e p)

-- the last of changes
pub record IsLastOf (ys : List Change) (k : ℕ) (x : Change) : Type 0 where
  pub split : ys ≡ take (k - 1) ys ++ x ∷ []
  pub count : k ≡ length (take (k - 1) ys) + 1
  pub found : slice_get ys (k - 1) ≡ Some x
  pub found_last : slice_get ys (length ys - 1) ≡ Some x

pub last-of : (ys : List Change) (k : ℕ) → 0 < k → k ≡ length ys → (x : Change) × IsLastOf ys k x
last-of ys k some is =
    let parts : (x : Change) × (ys ≡ take (k - 1) ys ++ x ∷ []) = split-last ys (k - 1) (omega (arith, some, is))
    in let before : length (take (k - 1) ys) ≡ k - 1 = length-take-le (k - 1) ys (omega (arith, is))
    in let there : slice_get ys (k - 1) ≡ Some parts.0
    = ap (λ zs. slice_get zs (k - 1)) parts.1 ∙ ap (slice_get (take (k - 1) ys ++ parts.0 ∷ [])) (sym before) ∙ last-there (take (k - 1) ys) parts.0
    in (parts.0, record { split = parts.1; count = omega (arith, some, before); found = there; found_last = ap (λ n. slice_get ys (n - 1)) (sym is) ∙ there })

pub ok-there : {A E : Type 0} (r : Result A E) (P : Type 0) → is_err r ≡ false → OnOk r P → P
ok-there (Ok a) P h p = p
ok-there (Err e) P h p = absurd (let no : true ≡ false = h in cc)

-- spans of a change, some of which are past, and the numbers that were put at their places
pub record Indexing (k : ℕ) (g h : Histories) (all left : List Span) : Type 0 where
  pub past : List Place
  pub places : places_of_spans all ≡ past ++ places_of_spans left
  pub whole : AreSpansWithinSize left
  pub gains : Gains k past g h

pub indexing-begun : (k : ℕ) (g : Histories) (all : List Span) → AreSpansWithinSize all → Indexing k g g all all
indexing-begun k g all w = record { past = []; places = refl; whole = w; gains = λ p. refl }

pub indexing-span : (k : ℕ) (g h : Histories) (all left next : List Span) (s : Span) → left ≡ s ∷ next → Indexing k g h all left → IsSpanWithinSize s × AreSpansWithinSize next
indexing-span k g h all left next s e i = rw e at i.whole

past-span : (all left next : List Span) (s : Span) (past : List Place) → left ≡ s ∷ next → places_of_spans all ≡ past ++ places_of_spans left
    → places_of_spans all ≡ (past ++ places_of_span s) ++ places_of_spans next
past-span all left next s past e h = h ∙ ap (λ (ss : List Span). past ++ places_of_spans ss) e ∙ sym (append_assoc past (places_of_span s) (places_of_spans next))

pub indexing-more : (k : ℕ) (g h i : Histories) (all left next : List Span) (s : Span) → left ≡ s ∷ next → Indexing k g h all left → Gains k (places_of_span s) h i → Indexing k g i all next
indexing-more k g h i all left next s e x gains = record {
  past = x.past ++ places_of_span s;
  places = past-span all left next s x.past e x.places;
  whole = (indexing-span k g h all left next s e x).1;
  gains = gains-more k x.past (places_of_span s) g h i x.gains gains;
}

pub index-all : (g h : Histories) (xs ys : List Change) (x : Change) (k : ℕ) (ss : List Span) → ys ≡ xs ++ x ∷ [] → k ≡ length xs + 1 → AreSpansOf ss x → IsIndexOf g xs → Gains k (places_of_spans ss) g h → IsIndexOf h ys
index-all g h xs ys x k ss is count spans whole a = rw is (index-whole g h xs x (places_of_spans ss) spans.places whole (rw count at a))

pub unindex-all : (g h : Histories) (xs : List Change) (x : Change) (k : ℕ) (ss : List Span) → k ≡ length xs + 1 → AreSpansOf ss x → MayIndex g xs x → Loses k (places_of_spans ss) g h → IsIndexOf h xs
unindex-all g h xs x k ss count spans may a = index-before g h xs x (places_of_spans ss) spans.places may (rw count at a)

pub unindex-within : (g h i : Histories) (xs : List Change) (x : Change) (k : ℕ) (ss ts : List Span) → k ≡ length xs + 1 → AreSpansOf (ss ++ ts) x → MayIndex g xs x
    → Loses k (places_of_spans ss) g h → Loses k (places_of_spans ts) h i → IsIndexOf i xs
unindex-within g h i xs x k ss ts count spans may a b =
    index-before g i xs x (places_of_spans ss ++ places_of_spans ts) (sym (places_of_spans-append ss ts) ∙ spans.places) may
    (rw count at (loses-more k (places_of_spans ss) (places_of_spans ts) g h i (λ p. rw count (may-index-once g xs x may p)) a b))

pub indexing-all : (g h : Histories) (xs ys : List Change) (x : Change) (k : ℕ) (all left : List Span) → left ≡ [] → ys ≡ xs ++ x ∷ [] → k ≡ length xs + 1
    → AreSpansOf all x → IsIndexOf g xs → Indexing k g h all left → IsIndexOf h ys
indexing-all g h xs ys x k all left none is count spans whole i =
    let end : places_of_spans all ≡ i.past = i.places ∙ ap (λ (ss : List Span). i.past ++ places_of_spans ss) none ∙ append-nil i.past
    in rw is (index-whole g h xs x i.past (sym end ∙ spans.places) whole (rw count at i.gains))

pub indexing-part : (g h i : Histories) (xs : List Change) (x : Change) (k : ℕ) (all left next : List Span) (s : Span) → left ≡ s ∷ next → k ≡ length xs + 1
    → AreSpansOf all x → IsIndexOf g xs → Indexing k g h all left → GainsInPart k (places_of_span s) h i → MayIndex i xs x
indexing-part g h i xs x k all left next s e count spans whole y part =
    index-part g i xs x (y.past ++ places_of_span s) (places_of_spans next) (sym (past-span all left next s y.past e y.places) ∙ spans.places) whole
    (rw count at (gains-then-part k y.past (places_of_span s) g h i y.gains part))

-- and numbers that were taken from them
pub record Unindexing (k : ℕ) (g h : Histories) (all left : List Span) : Type 0 where
  pub past : List Place
  pub places : places_of_spans all ≡ past ++ places_of_spans left
  pub whole : AreSpans left
  pub loses : Loses k past g h

pub unindexing-begun : (k : ℕ) (g : Histories) (all : List Span) → AreSpans all → Unindexing k g g all all
unindexing-begun k g all w = record { past = []; places = refl; whole = w; loses = record { each = λ p. inl refl; inside = λ p h. absurd (let no : false ≡ true = h in cc) } }

pub unindexing-span : (k : ℕ) (g h : Histories) (all left next : List Span) (s : Span) → left ≡ s ∷ next → Unindexing k g h all left → IsSpan s × AreSpans next
unindexing-span k g h all left next s e i = rw e at i.whole

pub unindexing-more : (g h i : Histories) (xs : List Change) (x : Change) (k : ℕ) (all left next : List Span) (s : Span) → left ≡ s ∷ next → k ≡ length xs + 1 → MayIndex g xs x
    → Unindexing k g h all left → Loses k (places_of_span s) h i → Unindexing k g i all next
unindexing-more g h i xs x k all left next s e count may y loses = record {
  past = y.past ++ places_of_span s;
  places = past-span all left next s y.past e y.places;
  whole = (unindexing-span k g h all left next s e y).1;
  loses = loses-more k y.past (places_of_span s) g h i (λ p. rw count (may-index-once g xs x may p)) y.loses loses;
}

pub unindexing-all : (g h : Histories) (xs : List Change) (x : Change) (k : ℕ) (all left : List Span) → left ≡ [] → k ≡ length xs + 1
    → AreSpansOf all x → MayIndex g xs x → Unindexing k g h all left → IsIndexOf h xs
unindexing-all g h xs x k all left none count spans may i =
    let end : places_of_spans all ≡ i.past = i.places ∙ ap (λ (ss : List Span). i.past ++ places_of_spans ss) none ∙ append-nil i.past
    in index-before g h xs x i.past (sym end ∙ spans.places) may (rw count at i.loses)

-- an index beside changes that get one more, lose it again, and have it exchanged
pub kept-appended : (xs ys zs : List Change) (x : Change) → ys ≡ xs ++ x ∷ [] → zs ≡ take (length ys - 1) ys → zs ≡ xs
kept-appended xs ys zs x is cut =
    let last : length xs ≡ length ys - 1 = omega (arith, ap length is, length-append xs (x ∷ []))
    in cut ∙ ap (take (length ys - 1)) is ∙ take_at xs (x ∷ []) (length ys - 1) last

pub index-appended : (h : Histories) (xs ys : List Change) (x : Change) → ys ≡ xs ++ x ∷ [] → IsIndexOf h xs → IsIndexOf h (take (length ys - 1) ys)
index-appended h xs ys x is whole = rw (kept-appended xs ys (take (length ys - 1) ys) x is refl) whole

pub may-index-last : (h : Histories) (ys : List Change) (k : ℕ) → 0 < k → k ≡ length ys → IsIndexOf h ys → IfSome (slice_get ys (k - 1)) (λ x. MayIndex h (take (k - 1) ys) x)
may-index-last h ys k some count whole =
    let last : (x : Change) × IsLastOf ys k x = last-of ys k some count
    in rw last.1.found (index-last h (take (k - 1) ys) last.0 (subst (λ zs. IsIndexOf h zs) last.1.split whole))

pub index-swapped : (h : Histories) (w : Whole) (ys zs : List Change) → 0 < length ys
    → IfSome (slice_get ys (length ys - 1)) (λ x. zs ≡ set ys (length ys - 1) (change_after_swap w x)) → IsIndexOf h ys → IsIndexOf h zs
index-swapped h w ys zs some swapped whole =
    let last : (x : Change) × IsLastOf ys (length ys) x = last-of ys (length ys) some refl
    in let new : zs ≡ set ys (length ys - 1) (change_after_swap w last.0) = rw last.1.found at swapped
    in rw new (index-set h ys (length ys - 1) last.0 (change_after_swap w last.0) last.1.found (places_of_change-after w last.0) whole)

pub length-swapped : (w : Whole) (ys zs : List Change) → 0 < length ys → IfSome (slice_get ys (length ys - 1)) (λ x. zs ≡ set ys (length ys - 1) (change_after_swap w x)) → length zs ≡ length ys
length-swapped w ys zs some swapped =
    let last : (x : Change) × IsLastOf ys (length ys) x = last-of ys (length ys) some refl
    in let new : zs ≡ set ys (length ys - 1) (change_after_swap w last.0) = rw last.1.found at swapped
    in ap length new ∙ length-set ys (length ys - 1) (change_after_swap w last.0)

-- and all changes but the last stay as they were
pub kept-swapped : (w : Whole) (ys zs : List Change) → 0 < length ys → IfSome (slice_get ys (length ys - 1)) (λ x. zs ≡ set ys (length ys - 1) (change_after_swap w x))
    → take (length zs - 1) zs ≡ take (length ys - 1) ys
kept-swapped w ys zs some swapped =
    let last : (x : Change) × IsLastOf ys (length ys) x = last-of ys (length ys) some refl
    in let new : zs ≡ set ys (length ys - 1) (change_after_swap w last.0) = rw last.1.found at swapped
    in ap (λ n. take (n - 1) zs) (length-swapped w ys zs some swapped) ∙ ap (take (length ys - 1)) new ∙ take-set ys (length ys - 1) (change_after_swap w last.0)
