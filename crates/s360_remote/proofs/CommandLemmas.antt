-- Lines of gdb's user: one that saves, and any other.
use Rattle.std.proofs.Common.{◌≡◌, ◌∙◌, ◌++◌, ℕ, Bool, not, List, Option, Some, None, Result, Ok, Err, ap, refl, sym, subst, IfOk, OnErr, OnOk}
use Rattle.s360_language.specs.declared.command.LineFault.{LineFault}
use Rattle.s360_saving.specs.Reading.{Asked}
use Rattle.s360_remote.specs.Driven.{Driven}
use Rattle.s360_remote.specs.Replies.{Adds}
use Rattle.s360_remote.specs.Saving.{IsSavingBegun, IsSavingServed}
use Rattle.s360_remote.specs.Serving.{IsAnsweredAtOnce, IsBegunAtOnce, IsCommandBegun, IsCommandServed, unmoved, with_moved}
use Rattle.s360_remote.specs.declared.serving.Then.{Then}
use Rattle.s360_remote.specs.declared.serving.Then.TheVariants.{GoOn}
use Rattle.std.proofs.lemmas.Bool.{eq-eqb}
use Rattle.std.proofs.lemmas.Result.{IfOk-weaker}

-- a line after which the target is as it was moved nothing
stays : (d u : Driven) → u ≡ d → with_moved d u ≡ unmoved d
stays d u same =
    ap (λ (x : Driven). with_moved d x) same
    ∙ ap (λ (b : Bool). record d { untold = record d.untold { moved = not b } }) (eq-eqb d.recorded.standing d.recorded.standing refl)

-- a line that saves was served, and the target is as it was
pub saved-served : {E : Type 0} (r : Result Then E) (reading : Option (Result Asked LineFault)) (asked : Result Asked LineFault) (line : List ℕ) (d u t : Driven) (old new : List ℕ)
    → OnOk r (u ≡ d) → t ≡ with_moved d u → reading ≡ Some asked
    → IfOk r (λ next. (packets : List ℕ) × IsSavingServed asked d.recorded next packets × (new ≡ old ++ packets))
    → IfOk r (λ next. (packets : List ℕ) × IsCommandServed reading line d t next packets × (new ≡ old ++ packets))
saved-served (Ok next) reading asked line d u t old new same moved is h =
    subst (λ o. (packets : List ℕ) × IsCommandServed o line d t next packets × (new ≡ old ++ packets)) (sym is)
    (h.0, (moved ∙ stays d u same, h.1), h.2)
saved-served (Err e) reading asked line d u t old new same moved is h = h

-- or it was begun, and the target stands at some change
pub saved-begun : {E : Type 0} (r : Result Then E) (reading : Option (Result Asked LineFault)) (asked : Result Asked LineFault) (line : List ℕ) (d u t : Driven)
    → OnErr r (IsSavingBegun d u) → t ≡ with_moved d u → reading ≡ Some asked → OnErr r (IsCommandBegun reading line d t)
saved-begun (Ok next) reading asked line d u t begun moved is = begun
saved-begun (Err e) reading asked line d u t begun moved is = subst (λ o. IsCommandBegun o line d t) (sym is) (u, begun, moved)

-- any other was answered at once
pub at_once-served : {E : Type 0} (r : Result Then E) (reading : Option (Result Asked LineFault)) (line : List ℕ) (d t : Driven) (old new : List ℕ) → reading ≡ None
    → IfOk r (λ next. (next ≡ GoOn) × Adds (IsAnsweredAtOnce line d t) old new) → IfOk r (λ next. Adds (IsCommandServed reading line d t next) old new)
at_once-served r reading line d t old new is h =
    subst (λ o. IfOk r (λ next. Adds (IsCommandServed o line d t next) old new)) (sym is) (IfOk-weaker r _ _ (λ next g. (g.1.0, (g.0, g.1.1), g.1.2)) h)

pub at_once-begun : {E : Type 0} (r : Result Then E) (reading : Option (Result Asked LineFault)) (line : List ℕ) (d t : Driven) → reading ≡ None
    → OnErr r (IsBegunAtOnce line d t) → OnErr r (IsCommandBegun reading line d t)
at_once-begun r reading line d t is h = subst (λ o. OnErr r (IsCommandBegun o line d t)) (sym is) h
