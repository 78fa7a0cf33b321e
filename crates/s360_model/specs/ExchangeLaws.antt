-- An exchange done again, of a change that may be there or not, where it restores both of one that is there (kept).
use Rattle.std.proofs.Common.{◌≡◌, ap, refl}
use Rattle.std.specs.Prelude.{Option, Some, None}
use Rattle.s360_model.specs.Exchanges.{CanIfAny, after_if_any, back_if_any}

pub CanIfAny-again : {D C : Type 0} (Can : D → C → Type 0) (after : D → C → D) (back : D → C → C)
    → ((d : D) (x : C) → Can d x → Can (after d x) (back d x))
    → (d : D) (x : Option C) → CanIfAny Can d x → CanIfAny Can (after_if_any after d x) (back_if_any back d x)
CanIfAny-again Can after back law d None h = tt
CanIfAny-again Can after back law d (Some x) h = law d x h

pub after_if_any-twice : {D C : Type 0} (Can : D → C → Type 0) (after : D → C → D) (back : D → C → C)
    → ((d : D) (x : C) → Can d x → after (after d x) (back d x) ≡ d)
    → (d : D) (x : Option C) → CanIfAny Can d x → after_if_any after (after_if_any after d x) (back_if_any back d x) ≡ d
after_if_any-twice Can after back law d None h = refl
after_if_any-twice Can after back law d (Some x) h = law d x h

pub back_if_any-twice : {D C : Type 0} (Can : D → C → Type 0) (after : D → C → D) (back : D → C → C)
    → ((d : D) (x : C) → Can d x → back (after d x) (back d x) ≡ x)
    → (d : D) (x : Option C) → CanIfAny Can d x → back_if_any back (after_if_any after d x) (back_if_any back d x) ≡ x
back_if_any-twice Can after back law d None h = refl
back_if_any-twice Can after back law d (Some x) h = ap (λ y. Some y) (law d x h)
