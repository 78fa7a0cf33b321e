-- What an accepted event adds to the journal.
use Rattle.std.proofs.Common.{◌≡◌, ◌<◌, ◌++◌, ℕ, List, [], ◌∷◌, refl, ap, sym, ◌∙◌, reverse, subst, Bool, true, false, Option, Some, None, Result, Ok, Err, nat_lt, cond, IsErrAnd, IsOkUnless, ltb-true}
use Rattle.std.proofs.lemmas.List.{reverse-append}
use Rattle.s360_machine.specs.declared.event.Event.{Event}
use Rattle.s360_machine.specs.declared.refusal.Refusal.{Refusal}
use Rattle.s360_machine.specs.declared.refusal.Refusal.TheVariants.{JournalFull}
use Rattle.s360_machine.specs.Machine.{Machine, Whole, storage_size, seen}
use Rattle.s360_machine.specs.Refusals.{refusal_of}
use Rattle.s360_machine.specs.Step.{step, after}
use Rattle.s360_machine.specs.Change.{Change, CanSwap, NeedsNoRoom, after_swap, change_after_swap, places_of_change}
use Rattle.s360_machine.specs.Differences.{differences}
use Rattle.s360_machine.specs.Planned.{IsChangeTo}
use Rattle.s360_journal.specs.Standing.{or_full}
use Rattle.s360_journal.specs.History.{Entry, IsHistory}
use Rattle.s360_journal.proofs.HistoryLemmas.{step-Ok, IsHistory-push, places_of_change-after}

-- an error that a call passes on
pub unless-there : {A E : Type 0} (r : Result A E) (P : E → Type 0) (e : E) → IsErrAnd r P → ((x : E) → P x → x ≡ e) → IsOkUnless r e
unless-there (Ok a) P e h f = absurd h
unless-there (Err x) P e h f = f x h

-- where nothing refuses, the event does not, and the journal has room
pub or_full-None : (o : Option Refusal) (count limit : ℕ) → or_full o count limit ≡ None → o ≡ None
or_full-None None count limit h = refl
or_full-None (Some r) count limit h = h

pub or_full-room : (o : Option Refusal) (count limit : ℕ) → or_full o count limit ≡ None → count < limit
or_full-room (Some r) count limit h = cc
or_full-room None count limit h =
    let by : (b : Bool) → nat_lt count limit ≡ b → cond b None (Some JournalFull) ≡ None → count < limit
    = λ b. elim b as (λ x. nat_lt count limit ≡ x → cond x None (Some JournalFull) ≡ None → count < limit)
    [ true ↦ λ e k. ltb-true count limit e | false ↦ λ e k. cc ]
    in by (nat_lt count limit) refl h

-- the journal with the exchanged change of an accepted event at its end
pub IsHistory-forward : (w v : Whole) (xs : List Entry) (e : Event) (x y : Change) → IsHistory w (reverse xs)
    → refusal_of (storage_size (seen w)) e ≡ None → IsChangeTo w x (after (seen w) e)
    → v ≡ after_swap w x → y ≡ change_after_swap w x → CanSwap v y → NeedsNoRoom y → after_swap v y ≡ w
    → IsHistory v (reverse (xs ++ record { event = e; changes = y } ∷ []))
IsHistory-forward w v xs e x y h accepted change v_is y_is can no_room back =
    let m : Machine = seen w
    in let leads : after m e ≡ seen v = sym change.makes ∙ ap (λ k. seen k) (sym v_is)
    in let one : step m e ≡ Ok (seen v) = step-Ok m e accepted ∙ ap (λ k. Ok k) leads
    in let lists : places_of_change y ≡ differences m (seen v)
    = ap (λ z. places_of_change z) y_is ∙ places_of_change-after w x ∙ change.lists ∙ ap (λ k. differences m k) leads
    in subst (λ l. IsHistory v l) (sym (reverse-append xs (record { event = e; changes = y } ∷ [])))
    (IsHistory-push w v (reverse xs) (record { event = e; changes = y }) h can no_room back one lists)
