-- The exchange of the console's media with a change, done twice (kept).
use Rattle.std.proofs.Common.{◌≡◌, List, ℕ, ap}
use Rattle.s360_device.specs.declared.motion.Motion.{Motion}
use Rattle.s360_device.specs.Kinds.{RestoresBoth}
use Rattle.s360_device.specs.MotionLaws.{CanMove-again, after_motion-twice, motion_back-twice}
use Rattle.s360_print.specs.declared.typed_line.TypedItem.{TypedItem}
use Rattle.s360_print.specs.declared.console_change.ListChange.{ListChange}
use Rattle.s360_print.specs.declared.console_change.ListChange.TheVariants.{Typed, Entered}
use Rattle.s360_print.specs.ConsoleChanges.{CanChangeList, entered_after, list_change_back, typed_after, console_kind}

CanChangeList-again : (typed : List TypedItem) (entered : List (List ℕ)) (x : ListChange) → CanChangeList typed entered x
    → CanChangeList (typed_after typed x) (entered_after entered x) (list_change_back typed entered x)
CanChangeList-again typed entered (Typed motion) h = CanMove-again typed motion h
CanChangeList-again typed entered (Entered motion) h = CanMove-again entered motion h

-- the lists, in a value that is made of both
lists-twice : {A : Type 0} (of : List TypedItem → List (List ℕ) → A) (typed : List TypedItem) (entered : List (List ℕ)) (x : ListChange)
    → CanChangeList typed entered x → (let back = list_change_back typed entered x
    in of (typed_after (typed_after typed x) back) (entered_after (entered_after entered x) back) ≡ of typed entered)
lists-twice of typed entered (Typed motion) h = ap (λ items. of items entered) (after_motion-twice typed motion h)
lists-twice of typed entered (Entered motion) h = ap (λ lines. of typed lines) (after_motion-twice entered motion h)

list_change_back-twice : (typed : List TypedItem) (entered : List (List ℕ)) (x : ListChange) → CanChangeList typed entered x
    → list_change_back (typed_after typed x) (entered_after entered x) (list_change_back typed entered x) ≡ x
list_change_back-twice typed entered (Typed motion) h = ap (λ (m : Motion TypedItem). Typed m) (motion_back-twice typed motion h)
list_change_back-twice typed entered (Entered motion) h = ap (λ (m : Motion (List ℕ)). Entered m) (motion_back-twice entered motion h)

pub console_change_restores_both : RestoresBoth console_kind
console_change_restores_both = record {
  again = λ c x can. CanChangeList-again c.typed c.entered x.list can;
  media = λ c x can. lists-twice (λ typed entered. record c { typed = typed; entered = entered }) c.typed c.entered x.list can;
  change = λ c x can. ap (λ (list : ListChange). record x { list = list }) (list_change_back-twice c.typed c.entered x.list can);
}
