-- A text that is told item by item, and the changes of a record.
use Rattle.std.proofs.Common.{◌≡◌, ◌<◌, ◌≤◌, ◌+◌, ◌-◌, ◌++◌, ℕ, zero, suc, Bool, true, false, List, [], ◌∷◌, Option, Some, None, Result, Ok, Err, IfOk, ap, sym, ◌∙◌, refl, arith, length, length-append, length-take, min, take, drop, codes, slice_get, unwrap_or, if◌then◌else◌}
use Rattle.s360_store.specs.declared.place.Place.{Place}
use Rattle.s360_machine.specs.declared.event.Event.{Event}
use Rattle.s360_machine.specs.declared.event_kind.EventKind.{EventKind}
use Rattle.s360_machine.specs.EventKinds.{kind_of_event}
use Rattle.s360_machine.specs.Machine.{Machine, seen}
use Rattle.s360_machine.specs.Step.{after}
use Rattle.s360_journal.specs.Rerun.{alters, last_numbered_from, or_else}
use Rattle.s360_journal.specs.Standing.{alteration, last_kind_of, last_of, machine_of}
use Rattle.s360_journal.specs.Reports.{IsReport}
use Rattle.s360_journal.specs.declared.report.Report.{Report}
use Rattle.s360_journal.specs.declared.report.Report.TheVariants.{Changed, Idle}
use Rattle.s360_journal.proofs.SessionLemmas.{last-there}
use Rattle.s360_journal.specs.Recorded.{Recorded, next_recorded, session_of, standing_events, with_standing}
use Rattle.s360_language.proofs.ShownLemmas.{pushed, told-next}
use Rattle.s360_debug.specs.Answers.{changed_after}
use Rattle.s360_inquiry.specs.Changes.{event_words, kind_of_change, last_change_in, machine_after}
use Rattle.s360_inquiry.specs.Histories.{altered_next, history_line, lines_from, places_words, report_words}

-- what holds of any answer that is one
pub if_ok : {A E : Type 0} {P Q : A → Type 0} (r : Result A E) → IfOk r P → ((x : A) → P x → Q x) → IfOk r Q
if_ok (Ok x) p more = more x p
if_ok (Err e) p more = p

-- ---- a text that is added to a part at a time

pub pushed-thrice : (old first second third s t u : List ℕ) → first ≡ old ++ s → second ≡ first ++ t → third ≡ second ++ u
    → third ≡ old ++ ((s ++ t) ++ u)
pushed-thrice old first second third s t u begun more last = pushed old second third (s ++ t) u (pushed old first second s t begun more) last

-- ---- the last change of a place is one that stands

pub numbered-below : (o : Option ℕ) (b : Bool) (k n top : ℕ) → ((j : ℕ) → o ≡ Some j → j < top) → k < top → or_else o (if b then Some k else None) ≡ Some n → n < top
numbered-below (Some j) b k n top later this h = let same : j ≡ n = cc in omega (arith, same, later j refl)
numbered-below None true k n top later this h = let same : k ≡ n = cc in omega (arith, same, this)
numbered-below None false k n top later this h = absurd (cc)

numbered-within : (k : ℕ) (m : Machine) (es : List Event) (p : Place) (n : ℕ) → last_numbered_from k m es p ≡ Some n → n < k + length es
numbered-within k m [] p n h = absurd (cc)
numbered-within k m (e ∷ es) p n h =
    let top : k + 1 + length es ≡ k + length (e ∷ es) = omega arith
    in let later : (j : ℕ) → last_numbered_from (k + 1) (after m e) es p ≡ Some j → j < k + length (e ∷ es)
    = λ j is. omega (arith, top, numbered-within (k + 1) (after m e) es p j is)
    in numbered-below (last_numbered_from (k + 1) (after m e) es p) (alters m e p) k n (k + length (e ∷ es)) later (omega arith) h

pub change-within : (r : Recorded) (place : Place) (n : ℕ) → last_change_in r place ≡ Some n → min (n - 1) (length r.events) ≡ n - 1
change-within r place n h =
    omega (arith, numbered-within 1 (seen r.start) (standing_events r) place n h, length-take r.standing r.events)

-- ---- the next event of the record

pub take-next : (n m : ℕ) (es : List Event) (e : Event) → m ≡ n + 1 → slice_get (drop n es) 0 ≡ Some e → take m es ≡ take n es ++ e ∷ []
take-next zero m [] e is h = absurd (cc)
take-next zero m (x ∷ es) e is h =
    let one : m ≡ 1 = omega (arith, is)
    in let same : x ≡ e = cc
    in rw one (ap (λ y. y ∷ []) same)
take-next (suc n) m [] e is h = absurd (cc)
take-next (suc n) m (x ∷ es) e is h =
    let more : m ≡ suc (n + 1) = omega (arith, is)
    in rw more (ap (λ l. x ∷ l) (take-next n (n + 1) es e refl h))

-- an event that comes next, or else another, is the next where one is left
next-there : (n : ℕ) (es : List Event) (e d : Event) → n < length es → e ≡ unwrap_or (slice_get (drop n es) 0) d → slice_get (drop n es) 0 ≡ Some e
next-there n [] e d h is = absurd (omega (arith, h))
next-there zero (x ∷ es) e d h is = ap (λ y. Some y) (sym is)
next-there (suc n) (x ∷ es) e d h is = next-there n es e d (omega (arith, h)) is

pub next-recorded : (r : Recorded) (e d : Event) → r.standing < length r.events → e ≡ unwrap_or (next_recorded r) d → next_recorded r ≡ Some e
next-recorded r e d less is = next-there r.standing r.events e d less is

last-kind : (es : List Event) (e : Event) → last_kind_of (es ++ e ∷ []) ≡ Some (kind_of_event e)
last-kind es e =
    let count : length (es ++ e ∷ []) - 1 ≡ length es = omega (arith, length-append es (e ∷ []))
    in let last : last_of (es ++ e ∷ []) ≡ Some e = ap (λ n. slice_get (es ++ e ∷ []) n) count ∙ last-there es e
    in rw last refl

-- what the next change of a record is
pub next-kind : (r : Recorded) (e d : Event) → r.standing < length r.events → e ≡ unwrap_or (next_recorded r) d
    → Some (kind_of_event e) ≡ kind_of_change r (r.standing + 1)
next-kind r e d less is =
    sym (
    ap (λ es. last_kind_of es) (take-next r.standing (r.standing + 1) r.events e refl (next-recorded r e d less is))
    ∙ last-kind (standing_events r) e
    )

-- a report tells the places that were altered
pub reported : (report : Report) (ps : List Place) → IsReport report ps → report_words report ≡ places_words ps
reported Idle ps h = rw h refl
reported (Changed qs) [] h = absurd (h.0 refl)
reported (Changed qs) (p ∷ ps) h = ap (λ l. changed_after [] l ++ codes "\n") h.1

-- its line
pub history-told : (r : Recorded) (e : Event) (number : ℕ) → next_recorded r ≡ Some e → number ≡ r.standing + 1
    → event_words number (machine_of (session_of r)) (Some (kind_of_event e)) ++ places_words (alteration (session_of r) e) ≡ history_line r number
history-told r e number next is =
    let one : number - 1 ≡ r.standing = omega (arith, is)
    in let kind : kind_of_change r number ≡ Some (kind_of_event e)
    = ap (λ es. last_kind_of es) (take-next r.standing number r.events e is next) ∙ last-kind (standing_events r) e
    in let altered : altered_next r ≡ alteration (session_of r) e = rw next refl
    in sym (
    ap (λ n. event_words number (machine_after r n) (kind_of_change r number) ++ places_words (altered_next (with_standing r n))) one
    ∙ ap (λ k. event_words number (machine_of (session_of r)) k ++ places_words (altered_next r)) kind
    ∙ ap (λ ps. event_words number (machine_of (session_of r)) (Some (kind_of_event e)) ++ places_words ps) altered
    )

-- and it is added
pub run-told : (old told new : List ℕ) (r : Recorded) (e d : Event) (number : ℕ) (kind : EventKind) (m : Machine) (report : Report)
    → r.standing < length r.events → number ≡ r.standing + 1 → e ≡ unwrap_or (next_recorded r) d → m ≡ machine_of (session_of r)
    → kind ≡ kind_of_event e → IsReport report (alteration (session_of r) e) → told ≡ old ++ event_words number m (Some kind)
    → new ≡ told ++ report_words report → new ≡ old ++ history_line r number
run-told old told new r e d number kind m report less is comes here same reports begun more =
    let next : next_recorded r ≡ Some e = next-recorded r e d less comes
    in pushed old told new (event_words number m (Some kind)) (report_words report) begun more
    ∙ ap (λ (t : List ℕ). old ++ (event_words number m (Some kind) ++ t)) (reported report (alteration (session_of r) e) reports)
    ∙ ap (λ (x : Machine). old ++ (event_words number x (Some kind) ++ places_words (alteration (session_of r) e))) here
    ∙ ap (λ (k : EventKind). old ++ (event_words number (machine_of (session_of r)) (Some k) ++ places_words (alteration (session_of r) e))) same
    ∙ ap (λ (t : List ℕ). old ++ t) (history-told r e number next is)

-- one line more of the history, of a recording that stands just before it
pub lines-more : (r x : Recorded) (first number : ℕ) (text new : List ℕ) → first ≤ number → x ≡ with_standing r number
    → text ≡ lines_from r first (number - first) → new ≡ text ++ history_line x (number + 1) → new ≡ lines_from r first (number + 1 - first)
lines-more r x first number text new order kept told more =
    let count : number - first + 1 ≡ number + 1 - first = omega (arith, order)
    in let at : first + (number - first) ≡ number = omega (arith, order)
    in more
    ∙ ap (λ (y : Recorded). text ++ history_line y (number + 1)) kept
    ∙ ap (λ (t : List ℕ). t ++ history_line r (number + 1)) told
    ∙ sym (told-next (λ before. history_line r (before + 1)) first (number - first) number at)
    ∙ ap (λ (n : ℕ). lines_from r first n) count
