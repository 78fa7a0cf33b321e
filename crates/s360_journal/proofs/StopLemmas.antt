-- The last stop at a breakpoint, looked for from the last event back.
use Rattle.std.proofs.Common.{◌≡◌, ◌≤◌, ◌<◌, ◌+◌, ◌-◌, ◌++◌, ℕ, zero, suc, nat_eq, List, [], ◌∷◌, refl, ap, sym, ◌∙◌, length, take, arith, Bool, true, false, cond, Option, Some, None, unwrap_or, length-take-le, eq-eqb, eqb-true, true≢false}
use Rattle.std.proofs.Math.Nat.{pos_of_ne-zero}
use Rattle.s360_machine.specs.declared.event.Event.{Event}
use Rattle.s360_machine.specs.Machine.{Machine, seen}
use Rattle.s360_machine.specs.Step.{after}
use Rattle.s360_journal.specs.Breakpoints.{is_at_breakpoint}
use Rattle.s360_journal.specs.Rerun.{rerun, or_else}
use Rattle.s360_journal.specs.Recorded.{Recorded, session_of, standing_events}
use Rattle.s360_journal.specs.Returning.{back_of, one_back}
use Rattle.s360_journal.specs.Running.{stops_at}
use Rattle.s360_journal.specs.Standing.{machine_of}
use Rattle.s360_journal.specs.Stops.{last_stop_from, stop_of}
use Rattle.s360_journal.specs.declared.running.Reach.TheVariants.{Stop}
use Rattle.s360_journal.proofs.AgainLemmas.{IsThere, there}

-- one event more: the machine before it decides where the CPU operates at a breakpoint
last_stop_from-push : (k : ℕ) (m : Machine) (es : List Event) (e : Event) (bs : List ℕ)
    → last_stop_from k m (es ++ e ∷ []) bs ≡ cond (is_at_breakpoint (rerun m es) bs) (Some (k + length es)) (last_stop_from k m es bs)
last_stop_from-push k m [] e bs =
    let none : k + 0 ≡ k = omega arith in rw none refl
last_stop_from-push k m (f ∷ es) e bs =
    let count : k + 1 + length es ≡ k + length (f ∷ es) = omega arith
    in let first : Option ℕ = cond (is_at_breakpoint m bs) (Some k) None
    in let later : Option ℕ = last_stop_from (k + 1) (after m f) es bs
    in let by : (b : Bool) → or_else (cond b (Some (k + 1 + length es)) later) first ≡ cond b (Some (k + length (f ∷ es))) (or_else later first)
    = λ b. elim b as (λ x. or_else (cond x (Some (k + 1 + length es)) later) first ≡ cond x (Some (k + length (f ∷ es))) (or_else later first))
    [ true ↦ ap (λ n. Some n) count | false ↦ refl ]
    in ap (λ o. or_else o first) (last_stop_from-push (k + 1) (after m f) es e bs) ∙ by (is_at_breakpoint (rerun (after m f) es) bs)

stop_of-push : (m : Machine) (es : List Event) (e : Event) (bs : List ℕ) (b : Bool) → is_at_breakpoint (rerun m es) bs ≡ b
    → stop_of m (es ++ e ∷ []) bs ≡ cond b (length es) (stop_of m es bs)
stop_of-push m es e bs true h =
    let none : 0 + length es ≡ length es = omega arith
    in ap (λ o. unwrap_or o 0) (last_stop_from-push 0 m es e bs) ∙ ap (λ b. unwrap_or (cond b (Some (0 + length es)) (last_stop_from 0 m es bs)) 0) h ∙ none
stop_of-push m es e bs false h =
    ap (λ o. unwrap_or o 0) (last_stop_from-push 0 m es e bs) ∙ ap (λ b. unwrap_or (cond b (Some (0 + length es)) (last_stop_from 0 m es bs)) 0) h

-- going back to a breakpoint, with no end but the start
pub back-stops : (breaks : List ℕ) (n : ℕ) (r : Recorded) → r.standing ≤ length r.events → r.standing ≤ n
    → (back_of (stops_at breaks) Stop r n).standing ≡ stop_of (seen r.start) (standing_events r) breaks
unfolding back_of
back-stops breaks zero r within h = let none : r.standing ≡ 0 = omega (arith, h) in rw none refl
back-stops breaks (suc n) r within h =
    let start : (b : Bool) → nat_eq r.standing 0 ≡ b → (back_of (stops_at breaks) Stop r (suc n)).standing ≡ stop_of (seen r.start) (standing_events r) breaks
    = λ b. elim b as (λ x. nat_eq r.standing 0 ≡ x → (back_of (stops_at breaks) Stop r (suc n)).standing ≡ stop_of (seen r.start) (standing_events r) breaks) [
      | true ↦ λ is. let none : r.standing ≡ 0 = eqb-true r.standing 0 is in rw none refl
      | false ↦ λ is.
          let some : 0 < r.standing = pos_of_ne-zero (λ no. true≢false (sym (eq-eqb r.standing 0 no) ∙ is))
          in let t : Recorded = one_back r
          in let last : IsThere r.events t.standing = there t.standing r.events (omega (arith, some, within))
          in let more : suc (r.standing - 1) ≡ r.standing = omega (arith, some)
          in let split : standing_events r ≡ standing_events t ++ last.event ∷ [] = ap (λ k. take k r.events) (sym more) ∙ last.one
          in let count : length (standing_events t) ≡ r.standing - 1 = length-take-le (r.standing - 1) r.events (omega (arith, within))
          in let later : (back_of (stops_at breaks) Stop t n).standing ≡ stop_of (seen r.start) (standing_events t) breaks = back-stops breaks n t (omega (arith, within)) (omega (arith, h, some))
          in let pushed : (c : Bool) → is_at_breakpoint (machine_of (session_of t)) breaks ≡ c → stop_of (seen r.start) (standing_events r) breaks ≡ cond c (length (standing_events t)) (stop_of (seen r.start) (standing_events t) breaks)
          = λ c here. ap (λ es. stop_of (seen r.start) es breaks) split ∙ stop_of-push (seen r.start) (standing_events t) last.event breaks c here
          in let at : (c : Bool) → is_at_breakpoint (machine_of (session_of t)) breaks ≡ c → (back_of (stops_at breaks) Stop r (suc n)).standing ≡ stop_of (seen r.start) (standing_events r) breaks
          = λ c. elim c as (λ x. is_at_breakpoint (machine_of (session_of t)) breaks ≡ x → (back_of (stops_at breaks) Stop r (suc n)).standing ≡ stop_of (seen r.start) (standing_events r) breaks) [
            | true ↦ λ here. rw (is, here) (sym count ∙ sym (pushed true here))
            | false ↦ λ here. rw (is, here) (later ∙ sym (pushed false here))
          ]
          in at (is_at_breakpoint (machine_of (session_of t)) breaks) refl
    ]
    in start (nat_eq r.standing 0) refl
